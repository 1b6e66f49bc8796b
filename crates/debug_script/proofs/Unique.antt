-- A script has one meaning, and prints one text.
use Rattle.std.proofs.Common.{◌≡◌, ◌∙◌, ℕ, ◌+◌, Bool, true, false, List, [], ◌∷◌, ◌++◌, codes, decimal, refl, arith, sym, ap, subst}
use Rattle.std.specs.Prelude.{MatchBool, Result, Ok, Err}
use Rattle.std.specs.Str.{bytes_eq}
use Rattle.std.proofs.lemmas.Fmt.{decimal_injective}
use Rattle.vox_geom.proofs.Truths.{true_and_false}
use Rattle.nano_spec.specs.declared.commands.Command.{Command}
use Rattle.nano_spec.specs.First.{with_first}
use Rattle.nano_spec.specs.Line.{Fault, NotAscii, UnknownWord, Shape, Range, has_high_byte}
use Rattle.nano_spec.specs.Reading.{FaultyLine}
use Rattle.step_debugger.specs.Session.{AnswersLine, Back, Bots, DebugLine, DebugReport, Group, Session, Step, Voxel}
use Rattle.debug_script.specs.Printing.{printed_report}
use Rattle.debug_script.specs.Script.{FollowsLine, HasFewDigits, ArePartsOf, LineSays, LinesSay, PartsSay, has_unknown_word, is_in_range, line_parts, parts_of}
use Rattle.debug_script.specs.Sessions.{Prints}

-- ---- the same parts are those of one line only

same_digits : (n m : ℕ) → HasFewDigits n → HasFewDigits m → decimal n ≡ decimal m → n ≡ m
same_digits n m a b e = decimal_injective n m (omega arith) (omega arith) e

abbrev first_part : List (List ℕ) → List ℕ
first_part [] = []
first_part (part ∷ more) = part

-- lines that begin with different words have different parts
pub other_words : (f g : DebugLine) → bytes_eq (first_part (parts_of f)) (first_part (parts_of f)) ≡ true
    → bytes_eq (first_part (parts_of f)) (first_part (parts_of g)) ≡ false → parts_of f ≡ parts_of g → ⊥
other_words f g same other e = let bytes_equal = subst (λ ws. bytes_eq (first_part (parts_of f)) (first_part ws) ≡ true) e same in cc

one_written : (line : List (List ℕ)) (f g : DebugLine) → ArePartsOf line f → ArePartsOf line g → f ≡ g
one_written line Step Step h k = refl
one_written line Back Back h k = refl
one_written line Bots Bots h k = refl
one_written line (Group n) (Group m) h k = let same_list : codes "group" ∷ decimal n ∷ [] ≡ codes "group" ∷ decimal m ∷ [] = sym h.parts_are ∙ k.parts_are in ap Group (same_digits n m h.short k.short (cc))
one_written line (Voxel c) (Voxel d) h k =
    let same_list : codes "voxel" ∷ decimal c.x ∷ decimal c.y ∷ decimal c.z ∷ [] ≡ codes "voxel" ∷ decimal d.x ∷ decimal d.y ∷ decimal d.z ∷ [] = sym h.parts_are ∙ k.parts_are in
    let px = same_digits c.x d.x h.short.0 k.short.0 (cc) in
    let py = same_digits c.y d.y h.short.1 k.short.1 (cc) in
    let pz = same_digits c.z d.z h.short.2 k.short.2 (cc) in
    λ i. Voxel (record { x = px i; y = py i; z = pz i })
one_written line f g h k = absurd (other_words f g refl refl (sym h.parts_are ∙ k.parts_are))

-- the parts of a line begin with a known word
has_word : (line : List (List ℕ)) (f : DebugLine) → ArePartsOf line f → has_unknown_word line ≡ false
has_word line Step h = rw h.parts_are refl
has_word line (Group n) h = rw h.parts_are refl
has_word line Back h = rw h.parts_are refl
has_word line Bots h = rw h.parts_are refl
has_word line (Voxel c) h = rw h.parts_are refl

-- ---- a line has one meaning

one_part_says : (r : ℕ) (line : List (List ℕ)) (a b : Result DebugLine Fault) → PartsSay r line a → PartsSay r line b
    → a ≡ b
one_part_says r line (Ok x) (Ok y) h k = ap Ok (one_written line x y h.0 k.0)
one_part_says r line (Ok x) (Err Range) h k = absurd (true_and_false (is_in_range r x) h.1 (ap (is_in_range r) (one_written line x k.0 h.0 k.1) ∙ k.2))
one_part_says r line (Err Range) (Ok y) h k = absurd (true_and_false (is_in_range r y) k.1 (ap (is_in_range r) (one_written line y h.0 k.0 h.1) ∙ h.2))
one_part_says r line (Ok x) (Err Shape) h k = absurd (k.1 x h.0)
one_part_says r line (Err Shape) (Ok y) h k = absurd (h.1 y k.0)
one_part_says r line (Err Range) (Err Shape) h k = absurd (k.1 h.0 h.1)
one_part_says r line (Err Shape) (Err Range) h k = absurd (h.1 k.0 k.1)
one_part_says r line (Ok x) (Err UnknownWord) h k = absurd (true_and_false (has_unknown_word line) k (has_word line x h.0))
one_part_says r line (Err UnknownWord) (Ok y) h k = absurd (true_and_false (has_unknown_word line) h (has_word line y k.0))
one_part_says r line (Err Range) (Err UnknownWord) h k = absurd (true_and_false (has_unknown_word line) k (has_word line h.0 h.1))
one_part_says r line (Err UnknownWord) (Err Range) h k = absurd (true_and_false (has_unknown_word line) h (has_word line k.0 k.1))
one_part_says r line (Err Shape) (Err UnknownWord) h k = absurd (true_and_false (has_unknown_word line) k h.0)
one_part_says r line (Err UnknownWord) (Err Shape) h k = absurd (true_and_false (has_unknown_word line) h k.0)
one_part_says r line (Err UnknownWord) (Err UnknownWord) h k = refl
one_part_says r line (Err Shape) (Err Shape) h k = refl
one_part_says r line (Err Range) (Err Range) h k = refl
one_part_says r line (Err NotAscii) b h k = absurd h
one_part_says r line a (Err NotAscii) h k = absurd k

one_line_says : (r : ℕ) (line : List ℕ) (a b : Result DebugLine Fault) → LineSays r line a → LineSays r line b → a ≡ b
one_line_says r line a b h k = by (has_high_byte line) h k
  where
    by : (t : Bool) → MatchBool t (a ≡ Err NotAscii) (PartsSay r (line_parts line) a)
        → MatchBool t (b ≡ Err NotAscii) (PartsSay r (line_parts line) b) → a ≡ b
    by true h k = h ∙ sym k
    by false h k = one_part_says r (line_parts line) a b h k

-- ---- a script has one meaning

one_rest : (P : Result (List DebugLine) FaultyLine → Type 0)
    → ((a b : Result (List DebugLine) FaultyLine) → P a → P b → a ≡ b) → (n : ℕ)
    (a b : Result (List DebugLine) FaultyLine) (what : Result DebugLine Fault) → FollowsLine P n what a
    → FollowsLine P n what b → a ≡ b
one_rest P once n a b (Ok what) h k = h.2 ∙ (ap (with_first what) (once h.0 k.0 h.1 k.1) ∙ sym k.2)
one_rest P once n a b (Err fault) h k = h ∙ sym k

pub one_reading : (r n : ℕ) (lines : List (List ℕ)) (a b : Result (List DebugLine) FaultyLine) → LinesSay r n lines a
    → LinesSay r n lines b → a ≡ b
one_reading r n [] a b h k = h ∙ sym k
one_reading r n (line ∷ more) a b h k =
    let same = one_line_says r line h.0 k.0 h.1 k.1 in
    one_rest (LinesSay r (n + 1) more) (one_reading r (n + 1) more) n a b k.0 (subst (λ (what : Result DebugLine Fault). FollowsLine (LinesSay r (n + 1) more) n what a) same h.2) k.2

-- ---- a script prints one text

abbrev AnswerLaw : Type 0
AnswerLaw = (commands : List Command) (line : DebugLine) (s t u : Session) (r q : DebugReport) → AnswersLine commands line s t r → AnswersLine commands line s u q → (t ≡ u) × (r ≡ q)

pub one_printing : AnswerLaw → (commands : List Command) (script : List DebugLine) (s : Session) (a b : List ℕ)
    → Prints commands script s a → Prints commands script s b → a ≡ b
one_printing law commands [] s a b h k = h ∙ sym k
one_printing law commands (line ∷ more) s a b h k =
    let same = law commands line s h.0 k.0 h.1 k.1 h.3 k.3 in
    let rest = one_printing law commands more k.0 h.2 k.2 (subst (λ (t : Session). Prints commands more t h.2) same.0 h.4) k.4 in
    h.5 ∙ ((λ i. printed_report (same.1 i) ++ rest i) ∙ sym k.5)
