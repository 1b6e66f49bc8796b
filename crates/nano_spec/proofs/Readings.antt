-- A line has one reading by a form, or none.
use Rattle.std.proofs.Common.{◌≡◌, ℕ, zero, suc, ◌+◌, ◌-◌, ◌*◌, refl, sym, ◌∙◌, ap, subst, inl, inr, arith, Bool, true, false, cond, ◌&&◌, not, List, [], ◌∷◌, ◌++◌, map, ℤ, pos}
use Rattle.std.specs.Prelude.{IsTrue, ◌==◌, ◌⊎◌, flat_map, find, take_while, Some}
use Rattle.std.specs.List.{list_all}
use Rattle.std.specs.Str.{bytes_eq}
use Rattle.std.proofs.lemmas.Bool.Decides.{nat_tests}
use Rattle.vox_geom.proofs.Truths.{first_of_two, second_of_two}
use Rattle.vox_geom.proofs.Tests.{equal_by_test}
use Rattle.vox_geom.proofs.Sums.{append_none}
use Rattle.nano_spec.specs.First.{HasOneAtMost}
use Rattle.nano_spec.specs.Line.{word_of}
use Rattle.nano_spec.specs.LineForm.{is_blank, is_digit, Part, Blanks, Mark, Number, Word, words, is_letter, after_blanks, Read, digits, negative, numbers, readings}

-- whether a form can't begin with a blank
abbrev pub is_sharp : List Part → Bool
is_sharp [] = true
is_sharp (Blanks ∷ ps) = false
is_sharp (Mark m ∷ ps) = not (is_blank m)
is_sharp (Number ∷ ps) = true

-- whether a form can't begin with a digit
abbrev pub is_free : List Part → Bool
is_free [] = true
is_free (Blanks ∷ ps) = is_free ps
is_free (Mark m ∷ ps) = not (is_digit m)
is_free (Number ∷ ps) = false

-- whether each part of a form ends before the next begins
abbrev pub is_clear : List Part → Bool
is_clear [] = true
is_clear (Blanks ∷ ps) = is_sharp ps && is_clear ps
is_clear (Mark m ∷ ps) = is_clear ps
is_clear (Number ∷ ps) = is_free ps && is_clear ps

pub blank_is : (b : ℕ) → IsTrue (is_blank b) → (b ≡ 32) ⊎ (b ≡ 9)
blank_is b h = by (b == 32) refl
  where
    by : (t : Bool) → (b == 32) ≡ t → (b ≡ 32) ⊎ (b ≡ 9)
    by true e = inl (grind (arith, nat_tests))
    by false e = inr (nine (rw e at h))
      where
        nine : IsTrue (b == 9) → b ≡ 9
        nine k = grind (arith, nat_tests)

no_mark : (test : ℕ → Bool) (b m : ℕ) (A : Type 0) (xs : List A) → IsTrue (test b) → IsTrue (not (test m))
    → cond (b == m) xs [] ≡ []
no_mark test b m A xs h k = by (b == m) refl
  where
    contrary : (t : Bool) → IsTrue t → IsTrue (not t) → ⊥
    contrary true p q = cc
    contrary false p q = cc

    by : (t : Bool) → (b == m) ≡ t → cond t xs [] ≡ []
    by true e = absurd (contrary (test m) (subst (λ (v : ℕ). IsTrue (test v)) (equal_by_test b m e) h) k)
    by false e = refl

pub no_number : (ps : List Part) (b : ℕ) (more : List ℕ) → (b ≡ 32) ⊎ (b ≡ 9) → readings (Number ∷ ps) (b ∷ more) ≡ []
no_number ps b more (inl e) = subst (λ (v : ℕ). readings (Number ∷ ps) (v ∷ more) ≡ []) (sym e) refl
no_number ps b more (inr e) = subst (λ (v : ℕ). readings (Number ∷ ps) (v ∷ more) ≡ []) (sym e) refl

-- a sharp form reads no line that begins with a blank
pub no_blank : (ps : List Part) (b : ℕ) (more : List ℕ) → IsTrue (is_sharp ps) → IsTrue (is_blank b)
    → readings ps (b ∷ more) ≡ []
no_blank [] b more h k = refl
no_blank (Blanks ∷ ps) b more h k = cc
no_blank (Mark m ∷ ps) b more h k = no_mark is_blank b m (List ℤ) (readings ps more) k h
no_blank (Number ∷ ps) b more h k = no_number ps b more (blank_is b k)

pub no_both : (b : ℕ) → IsTrue (is_digit b) → is_blank b ≡ false
no_both b h = by (is_blank b) refl
  where
    none : (b ≡ 32) ⊎ (b ≡ 9) → ⊥
    none (inl e) = different (subst (λ (v : ℕ). IsTrue (is_digit v)) e h)
      where
        different : IsTrue (is_digit 32) → ⊥
        different k = cc
    none (inr e) = different (subst (λ (v : ℕ). IsTrue (is_digit v)) e h)
      where
        different : IsTrue (is_digit 9) → ⊥
        different k = cc

    by : (t : Bool) → is_blank b ≡ t → is_blank b ≡ false
    by true e = absurd (none (blank_is b e))
    by false e = e

-- a free form reads no line that begins with a digit
pub no_digit : (ps : List Part) (b : ℕ) (more : List ℕ) → IsTrue (is_free ps) → IsTrue (is_digit b)
    → readings ps (b ∷ more) ≡ []
no_digit [] b more h k = refl
no_digit (Blanks ∷ ps) b more h k = let not_blank : is_blank b ≡ false = no_both b k in rw not_blank (append_none (readings ps (b ∷ more)) ∙ no_digit ps b more h k)
no_digit (Mark m ∷ ps) b more h k = no_mark is_digit b m (List ℤ) (readings ps more) k h
no_digit (Number ∷ ps) b more h k = cc

one_of_none : {A : Type 0} (xs ys : List A) → xs ≡ [] → HasOneAtMost ys → HasOneAtMost (xs ++ ys)
one_of_none [] ys e h = h
one_of_none (x ∷ xs) ys e h = cc

one_and_none : {A : Type 0} (xs ys : List A) → ys ≡ [] → HasOneAtMost xs → HasOneAtMost (xs ++ ys)
one_and_none xs [] e h = subst HasOneAtMost (sym (append_none xs)) h
one_and_none xs (y ∷ ys) e h = cc

one_mapped : {A B : Type 0} (f : A → B) (xs : List A) → HasOneAtMost xs → HasOneAtMost (map f xs)
one_mapped f [] h = tt
one_mapped f (x ∷ []) h = tt
one_mapped f (x ∷ y ∷ xs) h = h

-- blanks before a sharp form leave one reading
one_after_blanks : (ps : List Part) (line : List ℕ) → IsTrue (is_sharp ps)
    → ((rest : List ℕ) → HasOneAtMost (readings ps rest)) → HasOneAtMost (flat_map (readings ps) (after_blanks line))
one_after_blanks ps [] h one = one_and_none (readings ps []) [] refl (one [])
one_after_blanks ps (b ∷ more) h one = by (is_blank b) refl (one_after_blanks ps more h one)
  where
    by : (t : Bool) → is_blank b ≡ t → HasOneAtMost (flat_map (readings ps) (after_blanks more))
        → HasOneAtMost (readings ps (b ∷ more) ++ flat_map (readings ps) (cond t (after_blanks more) []))
    by true e later = one_of_none (readings ps (b ∷ more)) _ (no_blank ps b more h e) later
    by false e later = one_and_none (readings ps (b ∷ more)) [] refl (one (b ∷ more))

-- the readings behind a number
abbrev pub behind : (Read → ℤ) → List Part → Read → List (List ℤ)
behind value ps r = map (λ ns. value r ∷ ns) (readings ps r.rest)

none_left : (value : Read → ℤ) (ps : List Part) (n so_far : ℕ) (more : List ℕ) → IsTrue (is_free ps)
    → (digits n so_far more ≡ []) ⊎ (readings ps more ≡ [])
none_left value ps zero so_far more h = inl refl
none_left value ps (suc n) so_far [] h = inl refl
none_left value ps (suc n) so_far (b ∷ more) h = by (is_digit b) refl
  where
    by : (t : Bool) → is_digit b ≡ t → (cond t
        (record { number = pos (10 * so_far + (b - 48)); rest = more } ∷ digits n (10 * so_far + (b - 48)) more) []
        ≡ []) ⊎ (readings ps (b ∷ more) ≡ [])
    by true e = inr (no_digit ps b more h e)
    by false e = inl refl

-- the digits of a number before a free form leave one reading: the longest run
one_after_digits : (value : Read → ℤ) (ps : List Part) (n so_far : ℕ) (line : List ℕ) → IsTrue (is_free ps)
    → ((rest : List ℕ) → HasOneAtMost (readings ps rest))
    → HasOneAtMost (flat_map (behind value ps) (digits n so_far line))
one_after_digits value ps zero so_far line h one = tt
one_after_digits value ps (suc n) so_far [] h one = tt
one_after_digits value ps (suc n) so_far (b ∷ more) h one = by (is_digit b) (one_after_digits value ps n (10 * so_far + (b - 48)) more h one)
  where
    split : (digits n (10 * so_far + (b - 48)) more ≡ []) ⊎ (readings ps more ≡ [])
        → HasOneAtMost (flat_map (behind value ps) (digits n (10 * so_far + (b - 48)) more)) → HasOneAtMost
        (map (λ ns. value (record { number = pos (10 * so_far + (b - 48)); rest = more }) ∷ ns) (readings ps more)
        ++ flat_map (behind value ps) (digits n (10 * so_far + (b - 48)) more))
    split (inl e) later = one_and_none _ _ (ap (flat_map (behind value ps)) e) (one_mapped (λ ns. value (record { number = pos (10 * so_far + (b - 48)); rest = more }) ∷ ns) (readings ps more) (one more))
    split (inr e) later = one_of_none _ _ (ap (map (λ ns. value (record { number = pos (10 * so_far + (b - 48)); rest = more }) ∷ ns)) e) later

    by : (t : Bool) → HasOneAtMost (flat_map (behind value ps) (digits n (10 * so_far + (b - 48)) more)) → HasOneAtMost
        (flat_map (behind value ps) (cond t
        (record { number = pos (10 * so_far + (b - 48)); rest = more } ∷ digits n (10 * so_far + (b - 48)) more) []))
    by true later = split (none_left value ps n (10 * so_far + (b - 48)) more h) later
    by false later = tt

mapped_first : {A B C : Type 0} (f : A → B) (g : B → List C) (xs : List A)
    → flat_map g (map f xs) ≡ flat_map (λ x. g (f x)) xs
mapped_first f g [] = refl
mapped_first f g (x ∷ xs) = ap (λ ys. g (f x) ++ ys) (mapped_first f g xs)

one_after_number : (ps : List Part) (line : List ℕ) → IsTrue (is_free ps)
    → ((rest : List ℕ) → HasOneAtMost (readings ps rest))
    → HasOneAtMost (flat_map (behind (λ r. r.number) ps) (numbers line))
one_after_number ps [] h one = tt
one_after_number ps (b ∷ more) h one = by (b == 45)
  where
    by : (t : Bool) → HasOneAtMost
        (flat_map (behind (λ r. r.number) ps) (cond t (map negative (digits 3 0 more)) (digits 3 0 (b ∷ more))))
    by true = subst HasOneAtMost (sym (mapped_first negative (behind (λ r. r.number) ps) (digits 3 0 more))) (one_after_digits (λ r. (negative r).number) ps 3 0 more h one)
    by false = one_after_digits (λ r. r.number) ps 3 0 (b ∷ more) h one

-- a clear form reads a line in one way, or not at all
pub one_reading : (ps : List Part) → IsTrue (is_clear ps) → (line : List ℕ) → HasOneAtMost (readings ps line)
one_reading [] h [] = tt
one_reading [] h (b ∷ more) = tt
one_reading (Blanks ∷ ps) h line = one_after_blanks ps line (first_of_two (is_sharp ps) (is_clear ps) h) (one_reading ps (second_of_two (is_sharp ps) (is_clear ps) h))
one_reading (Mark m ∷ ps) h [] = tt
one_reading (Mark m ∷ ps) h (b ∷ more) = by (b == m) (one_reading ps h more)
  where
    by : (t : Bool) → HasOneAtMost (readings ps more) → HasOneAtMost (cond t (readings ps more) [])
    by true later = later
    by false later = tt
one_reading (Number ∷ ps) h line = one_after_number ps line (first_of_two (is_free ps) (is_clear ps) h) (one_reading ps (second_of_two (is_free ps) (is_clear ps) h))

-- a property of all elements is one of the element that is found
found_has : {A : Type 0} (test has : A → Bool) (xs : List A) (x : A) → IsTrue (list_all has xs) → find test xs ≡ Some x
    → IsTrue (has x)
found_has test has [] x h e = cc
found_has test has (y ∷ ys) x h e = by (test y) e (found_has test has ys x (second_of_two (has y) (list_all has ys) h))
  where
    by : (t : Bool) → cond t (Some y) (find test ys) ≡ Some x → (find test ys ≡ Some x → IsTrue (has x))
        → IsTrue (has x)
    by true f later = let same : y ≡ x = cc in subst (λ z. IsTrue (has z)) same (first_of_two (has y) (list_all has ys) h)
    by false f later = later f

all_clear : IsTrue (list_all (λ w. is_clear w.form) words)
all_clear = refl

-- the rest of a line after a word has one reading by the form of the word, or none
pub one_reading_of : (w : Word) (line rest : List ℕ) → word_of line ≡ Some w → HasOneAtMost (readings w.form rest)
one_reading_of w line rest e = one_reading w.form (found_has (λ v. bytes_eq v.letters (take_while is_letter line)) (λ v. is_clear v.form) words w all_clear e) rest
