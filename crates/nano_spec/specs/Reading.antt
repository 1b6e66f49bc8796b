-- How the text of a trace is read: its commands, or its first faulty line (docs/FORMATS.md, "Trace text").
use Rattle.std.specs.Prelude.{ℕ, ◌+◌, ◌==◌, List, [], ◌∷◌, map, Result, Ok, Err}
use Rattle.std.specs.List.{slice_split}
use Rattle.nano_spec.specs.declared.commands.Command.{Command}
use Rattle.nano_spec.specs.First.{with_first}
use Rattle.nano_spec.specs.Line.{Fault, Line, line_of, Skipped, Says, Faulty}

-- the lines without the empty one behind the last line feed
abbrev pub without_last_empty : List (List ℕ) → List (List ℕ)
without_last_empty [] = []
without_last_empty ([] ∷ []) = []
without_last_empty (line ∷ more) = line ∷ without_last_empty more

-- the lines of a text, each without its line feed
abbrev pub lines : List ℕ → List (List ℕ)
lines text = without_last_empty (slice_split (λ b. b == 10) text)

-- a line's fault, and the line's number, counted from 1
pub record FaultyLine : Type 0 where
  pub fault : Fault
  pub line : ℕ

-- the commands of the lines, from the line of this number on, or the first faulty line
abbrev pub read_lines : ℕ → List Line → Result (List Command) FaultyLine
read_lines n [] = Ok []
read_lines n (Skipped ∷ more) = read_lines (n + 1) more
read_lines n (Says command ∷ more) = with_first command (read_lines (n + 1) more)
read_lines n (Faulty fault ∷ more) = Err (record { fault = fault; line = n })

-- the commands of a text, or its first faulty line
abbrev pub read : List ℕ → Result (List Command) FaultyLine
read text = read_lines 1 (map line_of (lines text))
