-- The bytes and the Fissions of the first commands of a list.
use Rattle.std.proofs.Common.{◌≡◌, ℕ, ◌+◌, ◌*◌, ◌≤◌, ◌<◌, ◌∙◌, List, ◌∷◌, ◌++◌, length, take}
use Rattle.nano_spec.specs.declared.commands.Command.{Command}
use Rattle.nano_spec.specs.Spelling.{spellings}

-- the length in bytes of the first i commands, at most four each
pub record AreCounted (commands : List Command) (i bytes : ℕ) : Type 0 where
  pub value : bytes ≡ length (spellings (take i commands))
  pub few : bytes ≤ 4 * i
