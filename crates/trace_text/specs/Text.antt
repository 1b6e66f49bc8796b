-- The answer to a text, and the types of the reader in the definitions.
use Rattle.std.specs.Prelude.{◌≡◌, ℕ, List, [], ⊤, Option, Some, None, Result, Ok, Err, slice_index_or}
use Rattle.nano_spec.specs.declared.commands.Command.{Command}
use Rattle.nano_spec.specs.Line as line
use Rattle.nano_spec.specs.LineForm as form
use Rattle.nano_spec.specs.Reading.{FaultyLine, read}
use Rattle.trace_text.specs.declared.fault.TextFault.{TextFault}
use Rattle.trace_text.specs.declared.fault.TextFault.TheVariants.{Memory, Refused}
use Rattle.trace_text.specs.declared.fault.TextRefusal.{TextRefusal}
use Rattle.trace_text.specs.declared.fault.TextRefusal.TheVariants as refusal
use Rattle.trace_text.specs.declared.fault.Fault.{Fault}
use Rattle.trace_text.specs.declared.fault.Fault.TheVariants as fault
use Rattle.trace_text.specs.declared.line.Line.{Line}
use Rattle.trace_text.specs.declared.line.Line.TheVariants as said
use Rattle.trace_text.specs.declared.word.Word.{Word}
use Rattle.trace_text.specs.declared.word.Word.TheVariants as word

-- the fault of a line, by the definitions
abbrev pub fault_of : Fault → line.Fault
fault_of fault.NotAscii = line.NotAscii
fault_of fault.UnknownWord = line.UnknownWord
fault_of fault.Shape = line.Shape
fault_of fault.Range = line.Range

-- the faulty line of a refusal, by the definitions
abbrev pub faulty_line : TextRefusal → FaultyLine
faulty_line (refusal.NotAscii n) = record { fault = line.NotAscii; line = n }
faulty_line (refusal.UnknownWord n) = record { fault = line.UnknownWord; line = n }
faulty_line (refusal.Shape n) = record { fault = line.Shape; line = n }
faulty_line (refusal.Range n) = record { fault = line.Range; line = n }

-- the printed number of a refusal
abbrev pub text_refusal_number : TextRefusal → ℕ
text_refusal_number (refusal.NotAscii n) = 1
text_refusal_number (refusal.UnknownWord n) = 2
text_refusal_number (refusal.Shape n) = 3
text_refusal_number (refusal.Range n) = 4

-- the meaning of a line, by the definitions
abbrev pub line_is : Line → line.Line
line_is said.Skipped = line.Skipped
line_is (said.Says command) = line.Says command
line_is (said.Faulty fault) = line.Faulty (fault_of fault)

-- the word with this number in the table of the definitions
abbrev pub word_numbered : ℕ → form.Word
word_numbered k = slice_index_or form.words k (form.word "" [] (λ ns. None))

-- a word, by the definitions
abbrev pub word_is : Word → form.Word
word_is word.Halt = word_numbered 0
word_is word.Wait = word_numbered 1
word_is word.Flip = word_numbered 2
word_is word.SMove = word_numbered 3
word_is word.LMove = word_numbered 4
word_is word.FusionP = word_numbered 5
word_is word.FusionS = word_numbered 6
word_is word.Fission = word_numbered 7
word_is word.Fill = word_numbered 8
word_is word.Void = word_numbered 9
word_is word.GFill = word_numbered 10
word_is word.GVoid = word_numbered 11

abbrev pub fission_word : form.Word
fission_word = word_is word.Fission

abbrev pub word_if_any : Option Word → Option form.Word
word_if_any None = None
word_if_any (Some w) = Some (word_is w)

-- the text is read as the definition reads it, unless allocation failed
abbrev pub ReadsText : List ℕ → Result (List Command) TextFault → Type 0
ReadsText text (Ok commands) = read text ≡ Ok commands
ReadsText text (Err (Refused refusal)) = read text ≡ Err (faulty_line refusal)
ReadsText text (Err Memory) = ⊤
