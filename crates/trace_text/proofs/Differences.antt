-- The readings of a line's differences and numbers, by the parts that were read.
use Rattle.std.proofs.Common.{◌≡◌, ℕ, refl, sym, ◌∙◌, ap, true, false, List, [], ◌∷◌, ◌++◌, map, ℤ}
use Rattle.std.specs.Prelude.{Option, Some, None, Ok, Err}
use Rattle.vox_geom.specs.declared.difference.Diff.{Diff}
use Rattle.nano_spec.specs.LineForm.{Part, Blanks, Mark, Number, difference_parts, readings}
use Rattle.trace_text.specs.declared.fault.Fault.{Fault}
use Rattle.trace_text.specs.Forms.{IsOne, IsTwo}
use Rattle.trace_text.specs.Parts.{after_difference, after_number}
use Rattle.trace_text.proofs.Readings.{TakesBlanks, TakesMark, TakesNumber}

-- a number and the mark after it were read, or are missing
abbrev pub TakesPart : ℕ → List ℕ → Option ℤ → List ℕ → Type 0
TakesPart m old number new = (ps : List Part) → readings (Blanks ∷ Number ∷ Blanks ∷ Mark m ∷ ps) old ≡ after_number number ps new

-- a difference was read, or is missing
abbrev pub TakesDifference : List ℕ → Option Diff → List ℕ → Type 0
TakesDifference old d new = (ps : List Part) → readings (difference_parts ++ ps) old ≡ after_difference d ps new

abbrev pub parts_three : List Part → List Part
parts_three ps = Blanks ∷ Number ∷ Blanks ∷ Mark 62 ∷ ps

abbrev pub parts_two : List Part → List Part
parts_two ps = Blanks ∷ Number ∷ Blanks ∷ Mark 44 ∷ parts_three ps

abbrev pub parts_one : List Part → List Part
parts_one ps = Blanks ∷ Number ∷ Blanks ∷ Mark 44 ∷ parts_two ps

pub no_open : (old a b : List ℕ) → TakesBlanks old a → TakesMark 60 a false b → (ps : List Part)
    → readings (difference_parts ++ ps) old ≡ []
no_open old a b h m ps = h (Mark 60 ∷ parts_one ps) refl ∙ m (parts_one ps)

pub no_first : (old a b c : List ℕ) → TakesBlanks old a → TakesMark 60 a true b → TakesPart 44 b None c
    → (ps : List Part) → readings (difference_parts ++ ps) old ≡ []
no_first old a b c h m k ps = h (Mark 60 ∷ parts_one ps) refl ∙ (m (parts_one ps) ∙ k (parts_two ps))

pub no_second : (old a b c d : List ℕ) (x : ℤ) → TakesBlanks old a → TakesMark 60 a true b → TakesPart 44 b (Some x) c
    → TakesPart 44 c None d → (ps : List Part) → readings (difference_parts ++ ps) old ≡ []
no_second old a b c d x h m k l ps = h (Mark 60 ∷ parts_one ps) refl ∙ (m (parts_one ps) ∙ (k (parts_two ps) ∙ ap (λ xs. map (λ ns. x ∷ ns) xs) (l (parts_three ps))))

pub no_third : (old a b c d e : List ℕ) (x y : ℤ) → TakesBlanks old a → TakesMark 60 a true b
    → TakesPart 44 b (Some x) c → TakesPart 44 c (Some y) d → TakesPart 62 d None e → (ps : List Part)
    → readings (difference_parts ++ ps) old ≡ []
no_third old a b c d e x y h m k l o ps = h (Mark 60 ∷ parts_one ps) refl ∙ (m (parts_one ps) ∙ (k (parts_two ps) ∙ (ap (λ xs. map (λ ns. x ∷ ns) xs) (l (parts_three ps)) ∙ ap (λ xs. map (λ ns. x ∷ ns) (map (λ ns. y ∷ ns) xs)) (o ps))))

fused : (x y z : ℤ) (xs : List (List ℤ))
    → map (λ ns. x ∷ ns) (map (λ ns. y ∷ ns) (map (λ ns. z ∷ ns) xs)) ≡ map (λ ns. x ∷ y ∷ z ∷ ns) xs
fused x y z [] = refl
fused x y z (ns ∷ xs) = ap (λ v. (x ∷ y ∷ z ∷ ns) ∷ v) (fused x y z xs)

pub all_there : (old a b c d e : List ℕ) (x y z p q r : ℤ) → p ≡ x → q ≡ y → r ≡ z → TakesBlanks old a
    → TakesMark 60 a true b → TakesPart 44 b (Some x) c → TakesPart 44 c (Some y) d → TakesPart 62 d (Some z) e
    → (ps : List Part) → readings (difference_parts ++ ps) old ≡ map (λ ns. p ∷ q ∷ r ∷ ns) (readings ps e)
all_there old a b c d e x y z p q r i j k h m f g o ps =
    let readings_is : readings (difference_parts ++ ps) old ≡ map (λ ns. x ∷ y ∷ z ∷ ns) (readings ps e) = h (Mark 60 ∷ parts_one ps) refl ∙ (m (parts_one ps) ∙ (f (parts_two ps) ∙ (ap (λ xs. map (λ ns. x ∷ ns) xs) (g (parts_three ps)) ∙ (ap (λ xs. map (λ ns. x ∷ ns) (map (λ ns. y ∷ ns) xs)) (o ps) ∙ fused x y z (readings ps e))))) in
    readings_is ∙ (ap (λ v. map (λ ns. v ∷ y ∷ z ∷ ns) (readings ps e)) (sym i) ∙ (ap (λ v. map (λ ns. p ∷ v ∷ z ∷ ns) (readings ps e)) (sym j) ∙ ap (λ v. map (λ ns. p ∷ q ∷ v ∷ ns) (readings ps e)) (sym k)))

-- ---- a line of one difference, or of two

pub one_ends : (old b : List ℕ) (d : Diff) → TakesDifference old (Some d) b → readings (Blanks ∷ []) b ≡ [] ∷ []
    → readings (difference_parts ++ Blanks ∷ []) old ≡ (d.dx ∷ d.dy ∷ d.dz ∷ []) ∷ []
one_ends old b d h e = h (Blanks ∷ []) ∙ ap (map (λ ns. d.dx ∷ d.dy ∷ d.dz ∷ ns)) e

pub one_goes_on : (old b : List ℕ) (d : Diff) → TakesDifference old (Some d) b → readings (Blanks ∷ []) b ≡ []
    → readings (difference_parts ++ Blanks ∷ []) old ≡ []
one_goes_on old b d h e = h (Blanks ∷ []) ∙ ap (map (λ ns. d.dx ∷ d.dy ∷ d.dz ∷ ns)) e

pub two_there : (old b : List ℕ) (d e : Diff) → TakesDifference old (Some d) b
    → IsOne (readings (difference_parts ++ Blanks ∷ []) b) (Ok e)
    → IsTwo (readings (difference_parts ++ difference_parts ++ Blanks ∷ []) old) (Ok (d, e))
two_there old b d e h k = h (difference_parts ++ Blanks ∷ []) ∙ ap (map (λ ns. d.dx ∷ d.dy ∷ d.dz ∷ ns)) k

pub no_second_there : (old b : List ℕ) (d : Diff) (f : Fault) → TakesDifference old (Some d) b
    → IsOne (readings (difference_parts ++ Blanks ∷ []) b) (Err f)
    → IsTwo (readings (difference_parts ++ difference_parts ++ Blanks ∷ []) old) (Err f)
no_second_there old b d f h k = (h (difference_parts ++ Blanks ∷ []) ∙ ap (map (λ ns. d.dx ∷ d.dy ∷ d.dz ∷ ns)) k.0, k.1)

-- ---- a line of one number

pub no_last : (old a b : List ℕ) → TakesBlanks old a → TakesNumber a None b
    → readings (Blanks ∷ Number ∷ Blanks ∷ []) old ≡ []
no_last old a b h k = h (Number ∷ Blanks ∷ []) refl ∙ k (Blanks ∷ []) refl

pub last_ends : (old a b : List ℕ) (n z : ℤ) → z ≡ n → TakesBlanks old a → TakesNumber a (Some n) b
    → readings (Blanks ∷ []) b ≡ [] ∷ [] → readings (Blanks ∷ Number ∷ Blanks ∷ []) old ≡ (z ∷ []) ∷ []
last_ends old a b n z i h k e = h (Number ∷ Blanks ∷ []) refl ∙ (k (Blanks ∷ []) refl ∙ (ap (map (λ ns. n ∷ ns)) e ∙ ap (λ y. (y ∷ []) ∷ []) (sym i)))

pub last_goes_on : (old a b : List ℕ) (n : ℤ) → TakesBlanks old a → TakesNumber a (Some n) b
    → readings (Blanks ∷ []) b ≡ [] → readings (Blanks ∷ Number ∷ Blanks ∷ []) old ≡ []
last_goes_on old a b n h k e = h (Number ∷ Blanks ∷ []) refl ∙ (k (Blanks ∷ []) refl ∙ ap (map (λ ns. n ∷ ns)) e)
