-- All ways to read a line of text by a form; and the words, each with the form of the rest of its line and its command
-- (docs/FORMATS.md, "Trace text").
use Prim.Native.String.{String}
use Rattle.std.specs.Prelude.{ℕ, zero, suc, ◌+◌, ◌*◌, ◌-◌, ℤ, pos, negsuc, neg_ℤ, Bool, cond, ◌&&◌, ◌||◌, nat_le, ◌==◌, List, [], ◌∷◌, ◌++◌, map, flat_map, codes, slice_index_or, Option, Some, None, option_map}
use Rattle.vox_geom.specs.declared.difference.Diff.{Diff}
use Rattle.nano_spec.specs.declared.commands.Command.{Command}
use Rattle.nano_spec.specs.declared.commands.Command.TheVariants.{Halt, Wait, Flip, SMove, LMove, FusionP, FusionS, Fission, Fill, Void, GFill, GVoid}

-- a space or a tab
abbrev pub is_blank : ℕ → Bool
is_blank b = b == 32 || b == 9

-- a decimal digit
abbrev pub is_digit : ℕ → Bool
is_digit b = nat_le 48 b && nat_le b 57

-- an ASCII letter
abbrev pub is_letter : ℕ → Bool
is_letter b = (nat_le 65 b && nat_le b 90) || (nat_le 97 b && nat_le b 122)

-- a part of a line: any number of blanks, one byte, or a number
pub data Part : Type 0 where
  Blanks : Part
  Mark : ℕ → Part
  Number : Part

-- blanks, and then a difference: <, number, comma, number, comma, number, >, with blanks around each number
abbrev pub difference_parts : List Part
difference_parts =
    Blanks ∷ Mark 60 ∷ Blanks ∷ Number ∷ Blanks ∷ Mark 44 ∷ Blanks ∷ Number ∷ Blanks ∷ Mark 44 ∷ Blanks ∷ Number
    ∷ Blanks ∷ Mark 62 ∷ []

-- the possible rests of a line after some or no blanks at its front
abbrev pub after_blanks : List ℕ → List (List ℕ)
after_blanks [] = [] ∷ []
after_blanks (b ∷ more) = (b ∷ more) ∷ cond (is_blank b) (after_blanks more) []

-- a whole number at the front of a line, and the rest after it
pub record Read : Type 0 where
  pub number : ℤ
  pub rest : List ℕ

-- the numbers of one to n more digits at the front, behind digits whose value is so far
abbrev pub digits : ℕ → ℕ → List ℕ → List Read
digits zero so_far line = []
digits (suc n) so_far [] = []
digits (suc n) so_far (b ∷ more) =
    cond (is_digit b)
    (record { number = pos (10 * so_far + (b - 48)); rest = more } ∷ digits n (10 * so_far + (b - 48)) more) []

-- the same number with a minus sign
abbrev pub negative : Read → Read
negative r = record { number = neg_ℤ r.number; rest = r.rest }

-- the numbers at the front of a line: an optional minus sign and one to three digits
abbrev pub numbers : List ℕ → List Read
numbers [] = []
numbers (b ∷ more) = cond (b == 45) (map negative (digits 3 0 more)) (digits 3 0 (b ∷ more))

-- all ways to read a whole line by a form: the numbers that it gives
abbrev pub readings : List Part → List ℕ → List (List ℤ)
readings [] [] = [] ∷ []
readings [] (b ∷ more) = []
readings (Blanks ∷ parts) line = flat_map (readings parts) (after_blanks line)
readings (Mark m ∷ parts) [] = []
readings (Mark m ∷ parts) (b ∷ more) = cond (b == m) (readings parts more) []
readings (Number ∷ parts) line =
    flat_map (λ r. map (λ numbers. r.number ∷ numbers) (readings parts r.rest)) (numbers line)

-- the k-th number
abbrev pub number_at : List ℤ → ℕ → ℤ
number_at ns k = slice_index_or ns k (pos 0)

-- the difference of three numbers from the k-th on
abbrev pub difference_at : List ℤ → ℕ → Diff
difference_at ns k = record { dx = number_at ns k; dy = number_at ns (k + 1); dz = number_at ns (k + 2) }

-- a number as a natural number, if it is one
abbrev pub natural : ℤ → Option ℕ
natural (pos n) = Some n
natural (negsuc n) = None

-- a word: its spelling, the form of the rest of its line, and the command of the numbers there, if they give one
pub record Word : Type 0 where
  pub letters : List ℕ
  pub form : List Part
  pub command : List ℤ → Option Command

-- a word of these letters and parts; blanks may follow them
abbrev pub word : String → List Part → (List ℤ → Option Command) → Word
word letters parts command = record { letters = codes letters; form = parts ++ Blanks ∷ []; command = command }

-- the twelve words
abbrev pub words : List Word
words =
    word "Halt" [] (λ ns. Some Halt)
    ∷ word "Wait" [] (λ ns. Some Wait)
    ∷ word "Flip" [] (λ ns. Some Flip)
    ∷ word "SMove" difference_parts (λ ns. Some (SMove (difference_at ns 0)))
    ∷ word "LMove" (difference_parts ++ difference_parts) (λ ns. Some (LMove (difference_at ns 0) (difference_at ns 3)))
    ∷ word "FusionP" difference_parts (λ ns. Some (FusionP (difference_at ns 0)))
    ∷ word "FusionS" difference_parts (λ ns. Some (FusionS (difference_at ns 0)))
    ∷ word "Fission" (difference_parts ++ Blanks ∷ Number ∷ [])
    (λ ns. option_map (Fission (difference_at ns 0)) (natural (number_at ns 3)))
    ∷ word "Fill" difference_parts (λ ns. Some (Fill (difference_at ns 0)))
    ∷ word "Void" difference_parts (λ ns. Some (Void (difference_at ns 0)))
    ∷ word "GFill" (difference_parts ++ difference_parts) (λ ns. Some (GFill (difference_at ns 0) (difference_at ns 3)))
    ∷ word "GVoid" (difference_parts ++ difference_parts) (λ ns. Some (GVoid (difference_at ns 0) (difference_at ns 3)))
    ∷ []
