-- The beginning of bytes: a spelling, a prefix of one, or neither.
use Rattle.std.specs.Prelude.{◌≡◌, ℕ, ◌≤◌, List, ◌++◌, length, take}
use Rattle.nano_spec.specs.declared.commands.Command.{Command}
use Rattle.nano_spec.specs.Command.{IsCommand}
use Rattle.nano_spec.specs.Cutting.{BeginsSpelling}
use Rattle.nano_spec.specs.Spelling.{spelling}
use Rattle.trace_codec.specs.declared.one.One.{One}
use Rattle.trace_codec.specs.declared.one.One.TheVariants.{Got, More, Bad}

-- the first len of the bytes spell the command
pub record Spells (bytes : List ℕ) (command : Command) (len : ℕ) : Type 0 where
  pub is_command : IsCommand command
  pub within : len ≤ length bytes
  pub spelling_is : take len bytes ≡ spelling command

-- no spelling begins the bytes
abbrev pub NoSpelling : List ℕ → Type 0
NoSpelling bytes = (command : Command) (rest : List ℕ) → IsCommand command → bytes ≡ spelling command ++ rest → ⊥

-- no spelling begins the bytes, and they are no prefix of one
abbrev pub IsNoCommand : List ℕ → Type 0
IsNoCommand bytes = NoSpelling bytes × (BeginsSpelling bytes → ⊥)

-- the beginning of the bytes
abbrev pub BeginsWith : List ℕ → One → Type 0
BeginsWith bytes (Got command len) = Spells bytes command len
BeginsWith bytes More = BeginsSpelling bytes
BeginsWith bytes Bad = IsNoCommand bytes
