-- Reading the script of a session: its lines, or its first faulty line (docs/FORMATS.md, "Sessions").
use Rattle.std.specs.Prelude.{◌≡◌, ℕ, ◌+◌, ◌<◌, nat_lt, ◌&&◌, ◌==◌, Bool, true, false, not, ⊤, List, [], ◌∷◌, codes, decimal, Result, Ok, Err, MatchBool, IsTrue, IsFalse}
use Rattle.std.specs.List.{list_any, slice_split}
use Rattle.std.specs.Str.{bytes_eq}
use Rattle.nano_spec.specs.First.{with_first}
use Rattle.nano_spec.specs.Line.{Fault, NotAscii, UnknownWord, Shape, Range, has_high_byte}
use Rattle.nano_spec.specs.Reading.{FaultyLine, lines}
use Rattle.step_debugger.specs.Session.{DebugLine, Step, Group, Back, Bots, Voxel}

-- the parts of a line, which single spaces separate
abbrev pub line_parts : List ℕ → List (List ℕ)
line_parts line = slice_split (λ b. b == 32) line

-- the text of a line: its word, and its numbers in decimal digits without sign or leading zeros
abbrev pub parts_of : DebugLine → List (List ℕ)
parts_of Step = codes "step" ∷ []
parts_of (Group bid) = codes "group" ∷ decimal bid ∷ []
parts_of Back = codes "back" ∷ []
parts_of Bots = codes "bots" ∷ []
parts_of (Voxel c) = codes "voxel" ∷ decimal c.x ∷ decimal c.y ∷ decimal c.z ∷ []

-- the number has at most five digits
abbrev pub HasFewDigits : ℕ → Type 0
HasFewDigits n = n < 100000

-- each number of the line has at most five digits
abbrev pub AreShort : DebugLine → Type 0
AreShort (Group bid) = HasFewDigits bid
AreShort (Voxel c) = HasFewDigits c.x × HasFewDigits c.y × HasFewDigits c.z
AreShort line = ⊤

-- the parts are those of the line
pub record ArePartsOf (parts : List (List ℕ)) (line : DebugLine) : Type 0 where
  pub parts_are : parts ≡ parts_of line
  pub short : AreShort line

-- whether a bid is 1 to 40, and a coordinate is in a matrix of the resolution
abbrev pub is_in_range : ℕ → DebugLine → Bool
is_in_range r (Group bid) = nat_lt 0 bid && nat_lt bid 41
is_in_range r (Voxel c) = nat_lt c.x r && nat_lt c.y r && nat_lt c.z r
is_in_range r line = true

-- the words of lines
abbrev pub line_words : List (List ℕ)
line_words = codes "step" ∷ codes "group" ∷ codes "back" ∷ codes "bots" ∷ codes "voxel" ∷ []

-- whether the first part is none of the words
abbrev pub has_unknown_word : List (List ℕ) → Bool
has_unknown_word [] = false
has_unknown_word (word ∷ more) = not (list_any (λ w. bytes_eq w word) line_words)

-- the meaning of a line's parts, or their first fault
abbrev pub PartsSay : ℕ → List (List ℕ) → Result DebugLine Fault → Type 0
PartsSay r parts (Ok line) = ArePartsOf parts line × IsTrue (is_in_range r line)
PartsSay r parts (Err NotAscii) = ⊥
PartsSay r parts (Err UnknownWord) = IsTrue (has_unknown_word parts)
PartsSay r parts (Err Shape) = IsFalse (has_unknown_word parts) × ((line : DebugLine) → ArePartsOf parts line → ⊥)
PartsSay r parts (Err Range) = (line : DebugLine) × ArePartsOf parts line × IsFalse (is_in_range r line)

-- the meaning of a line, or its first fault
abbrev pub LineSays : ℕ → List ℕ → Result DebugLine Fault → Type 0
LineSays r line answer = MatchBool (has_high_byte line) (answer ≡ Err NotAscii) (PartsSay r (line_parts line) answer)

-- the reading after a line of this number and meaning: the rest is read, or the line is the first faulty one
abbrev pub FollowsLine : (Result (List DebugLine) FaultyLine → Type 0) → ℕ → Result DebugLine Fault
    → Result (List DebugLine) FaultyLine → Type 0
FollowsLine P n (Ok what) answer =
    (rest : Result (List DebugLine) FaultyLine) × P rest × (answer ≡ with_first what rest)
FollowsLine P n (Err fault) answer = answer ≡ Err (record { fault = fault; line = n })

-- the meaning of the lines from this number on: the lines, or the first faulty one
abbrev pub LinesSay : ℕ → ℕ → List (List ℕ) → Result (List DebugLine) FaultyLine → Type 0
LinesSay r n [] answer = answer ≡ Ok []
LinesSay r n (line ∷ more) answer =
    (what : Result DebugLine Fault) × LineSays r line what × FollowsLine (LinesSay r (n + 1) more) n what answer

-- the meaning of a script at a resolution: its lines, or its first faulty line
abbrev pub ScriptSays : ℕ → List ℕ → Result (List DebugLine) FaultyLine → Type 0
ScriptSays r bytes answer = LinesSay r 1 (lines bytes) answer
