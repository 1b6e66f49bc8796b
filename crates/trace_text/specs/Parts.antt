-- The rest of a line after a part.
use Rattle.std.specs.Prelude.{◌≡◌, ◌==◌, ◌≤◌, ℕ, zero, suc, ◌+◌, ◌*◌, ◌-◌, ℤ, pos, Bool, true, false, cond, not, List, [], ◌∷◌, map, Option, Some, None}
use Rattle.vox_geom.specs.declared.difference.Diff.{Diff}
use Rattle.nano_spec.specs.LineForm.{Part, Blanks, Mark, Number, Read, is_blank, is_digit, readings}

-- the parts cannot begin with a blank
abbrev pub is_sharp : List Part → Bool
is_sharp [] = true
is_sharp (Blanks ∷ parts) = false
is_sharp (Mark m ∷ parts) = not (is_blank m)
is_sharp (Number ∷ parts) = true

-- the parts cannot begin with a digit
abbrev pub is_free : List Part → Bool
is_free [] = true
is_free (Blanks ∷ parts) = is_free parts
is_free (Mark m ∷ parts) = not (is_digit m)
is_free (Number ∷ parts) = false

-- the readings after a number was read, or none was found
abbrev pub after_number : Option ℤ → List Part → List ℕ → List (List ℤ)
after_number None parts rest = []
after_number (Some n) parts rest = map (λ ns. n ∷ ns) (readings parts rest)

-- the readings after a difference was read, or none was found
abbrev pub after_difference : Option Diff → List Part → List ℕ → List (List ℤ)
after_difference None parts rest = []
after_difference (Some d) parts rest = map (λ ns. d.dx ∷ d.dy ∷ d.dz ∷ ns) (readings parts rest)

abbrev pub first_is_digit : List ℕ → Bool
first_is_digit [] = false
first_is_digit (b ∷ more) = is_digit b

-- the mark is at the front
abbrev pub begins_with : ℕ → List ℕ → Bool
begins_with mark [] = false
begins_with mark (b ∷ more) = b == mark

-- the digit at the front was taken, or there is none
abbrev pub TakesDigit : List ℕ → Option ℕ → List ℕ → Type 0
TakesDigit old None new = (first_is_digit old ≡ false) × (new ≡ old)
TakesDigit old (Some d) new = (old ≡ (48 + d) ∷ new) × (d ≤ 9)

-- a number was read, and this is the rest
abbrev pub number_read : Option ℕ → List ℕ → Option Read
number_read None rest = None
number_read (Some n) rest = Some (record { number = pos n; rest = rest })

abbrev pub longer : Read → Option Read → Option Read
longer r None = Some r
longer r (Some q) = Some q

-- the number of the longest run of one to n digits at the front, after digits with the value `so_far`
abbrev pub longest : ℕ → ℕ → List ℕ → Option Read
longest zero so_far line = None
longest (suc n) so_far [] = None
longest (suc n) so_far (b ∷ more) =
    cond (is_digit b)
    (longer (record { number = pos (10 * so_far + (b - 48)); rest = more }) (longest n (10 * so_far + (b - 48)) more))
    None
