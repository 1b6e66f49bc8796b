-- The content of a line of text: nothing, a command, or a fault (docs/FORMATS.md, "Trace text").
use Rattle.std.specs.Prelude.{◌≡◌, Contains, ℕ, ℤ, Bool, cond, nat_lt, ◌==◌, List, [], ◌∷◌, drop, find, take_while, Option, Some, None}
use Rattle.std.specs.List.{list_all, list_any, before_first, prefix_len}
use Rattle.std.specs.Str.{bytes_eq}
use Rattle.nano_spec.specs.declared.commands.Command.{Command}
use Rattle.nano_spec.specs.Command.{is_command, IsCommand}
use Rattle.nano_spec.specs.LineForm.{is_blank, is_letter, Word, words, readings}

-- the fault of a line
pub data Fault : Type 0 where
  NotAscii : Fault
  UnknownWord : Fault
  Shape : Fault
  Range : Fault

-- the content of a line: nothing, a command, or a fault
pub data Line : Type 0 where
  Skipped : Line
  Says : Command → Line
  Faulty : Fault → Line

-- the line without a carriage return at its end
abbrev pub without_return : List ℕ → List ℕ
without_return [] = []
without_return (b ∷ []) = cond (b == 13) [] (b ∷ [])
without_return (b ∷ c ∷ more) = b ∷ without_return (c ∷ more)

-- the line without a carriage return at its end and without its comment, which begins with #
abbrev pub line_content : List ℕ → List ℕ
line_content line = before_first (λ b. b == 35) (without_return line)

-- the line from its first byte on that is no blank
abbrev pub from_word : List ℕ → List ℕ
from_word line = drop (prefix_len is_blank line) line

-- the word of a line that begins with one: the longest run of letters
abbrev pub word_of : List ℕ → Option Word
word_of line = find (λ w. bytes_eq w.letters (take_while is_letter line)) words

-- the rest of a line after its word
abbrev pub after_word : List ℕ → List ℕ
after_word line = drop (prefix_len is_letter line) line

-- a command, if it is valid: each difference is of its kind, and the number of a Fission is a byte
abbrev pub checked : Option Command → Line
checked None = Faulty Range
checked (Some command) = cond (is_command command) (Says command) (Faulty Range)

-- the command of the numbers of a reading
abbrev pub said : Word → List (List ℤ) → Line
said w [] = Faulty Shape
said w (ns ∷ more) = checked (w.command ns)

-- the command of a line, by its word
abbrev pub said_by : Option Word → List ℕ → Line
said_by None rest = Faulty UnknownWord
said_by (Some w) rest = said w (readings w.form rest)

-- whether a line has a byte above 7F
abbrev pub has_high_byte : List ℕ → Bool
has_high_byte line = list_any (nat_lt 127) line

-- whether a line is skipped: it has only blanks and a comment
abbrev pub is_skipped : List ℕ → Bool
is_skipped line = list_all is_blank (line_content line)

-- the line is of the form of the command: the word is the command's, and the line can be read with its numbers
abbrev pub IsLineOf : List ℕ → Command → Type 0
IsLineOf line command =
    (word : Word) × (ns : List ℤ) × (word_of (from_word (line_content line)) ≡ Some word)
    × Contains (readings word.form (after_word (from_word (line_content line)))) ns × (word.command ns ≡ Some command)
    × IsCommand command

-- the content of a line
abbrev pub line_of : List ℕ → Line
line_of line =
    cond (has_high_byte line) (Faulty NotAscii)
    (cond (is_skipped line) Skipped
    (said_by (word_of (from_word (line_content line))) (after_word (from_word (line_content line)))))
