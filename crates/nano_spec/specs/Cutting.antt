-- How the bytes of a trace are cut into commands, and which traces are refused (task description, section on trace
-- files; the refusals are this project's own: docs/FORMATS.md, "Trace files").
use Rattle.std.specs.Prelude.{◌≡◌, ◌≢◌, ℕ, ◌+◌, ◌≤◌, List, [], ◌++◌, length, Result, Ok, Err}
use Rattle.std.specs.List.{AllByRecursion}
use Rattle.nano_spec.specs.declared.commands.Command.{Command}
use Rattle.nano_spec.specs.Command.{IsCommand}
use Rattle.nano_spec.specs.Spelling.{spelling, spellings}

-- each of the list is a command
abbrev pub AreCommands : List Command → Type 0
AreCommands commands = AllByRecursion IsCommand commands

-- the bytes are the joined spellings of the commands
abbrev pub Cutting : List ℕ → List Command → Type 0
Cutting bytes commands = AreCommands commands × (bytes ≡ spellings commands)

-- the bytes are the joined spellings of some commands, and then a rest
abbrev pub HasFront : List ℕ → List ℕ → Type 0
HasFront bytes rest = (commands : List Command) × AreCommands commands × (bytes ≡ spellings commands ++ rest)

-- the rest after the longest front that is a join of spellings
abbrev pub RestOf : List ℕ → List ℕ → Type 0
RestOf bytes rest = HasFront bytes rest × ((other : List ℕ) → HasFront bytes other → length rest ≤ length other)

-- the rest is a spelling's beginning, but not the whole spelling
abbrev pub BeginsSpelling : List ℕ → Type 0
BeginsSpelling rest =
    (command : Command) × (more : List ℕ) × IsCommand command × (more ≢ []) × (rest ++ more ≡ spelling command)

-- the reason why bytes are no trace, with an offset: they end within a command, or are no command there
pub data NoTrace : Type 0 where
  CutAt : ℕ → NoTrace
  BadAt : ℕ → NoTrace

-- the commands of the bytes, or the reason for the refusal: by the rest after the longest front that is a join of
-- spellings
abbrev pub Decoding : List ℕ → Result (List Command) NoTrace → Type 0
Decoding bytes (Ok commands) = Cutting bytes commands
Decoding bytes (Err (CutAt offset)) =
    (rest : List ℕ) × RestOf bytes rest × (rest ≢ []) × (length bytes ≡ offset + length rest) × BeginsSpelling rest
Decoding bytes (Err (BadAt offset)) =
    (rest : List ℕ) × RestOf bytes rest × (rest ≢ []) × (length bytes ≡ offset + length rest)
    × (BeginsSpelling rest → ⊥)
