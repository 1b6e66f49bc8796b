-- Commands that are plain, up to an index.
use Rattle.std.proofs.Common.{◌≡◌, ℕ, ◌+◌, ◌≤◌, ◌<◌, subst, List, length, take, get_or}
use Rattle.std.specs.Prelude.{All}
use Rattle.std.proofs.lemmas.List.{take_all}
use Rattle.std.proofs.lemmas.List.Elements.{All-more}
use Rattle.nano_spec.specs.declared.commands.Command.{Command}
use Rattle.low_planner.specs.Commands.{IsPlain}

-- the first commands are plain
pub record ArePlainTo (commands : List Command) (i : ℕ) : Type 0 where
  pub plain : All IsPlain (take i commands)

pub plain_more : (commands : List Command) (i : ℕ) (k : Command) → i < length commands → k ≡ get_or commands i k
    → IsPlain k → ArePlainTo commands i → ArePlainTo commands (i + 1)
plain_more commands i k l e p h = record { plain = All-more IsPlain commands i k l h.plain (subst IsPlain e p) }

pub plain_all : (commands : List Command) (i : ℕ) → length commands ≤ i → ArePlainTo commands i → All IsPlain commands
plain_all commands i l h = subst (All IsPlain) (take_all i commands l) h.plain
