-- The rest of a line after a part was taken.
use Rattle.std.proofs.Common.{◌≡◌, ℕ, zero, suc, ◌+◌, ◌-◌, ◌*◌, refl, sym, ◌∙◌, ap, arith, Bool, true, false, cond, not, List, [], ◌∷◌, ◌++◌, map, length, drop, ℤ, pos, neg_ℤ}
use Rattle.std.specs.Prelude.{IsTrue, IsFalse, ◌==◌, Option, Some, None, flat_map}
use Rattle.std.specs.List.{prefix_len}
use Rattle.vox_geom.proofs.Tests.{equal_by_test}
use Rattle.vox_geom.proofs.Sums.{append_none}
use Rattle.nano_spec.specs.LineForm.{is_blank, is_digit, Part, Blanks, Mark, Number, after_blanks, Read, digits, negative, readings}
use Rattle.nano_spec.proofs.Readings.{no_blank, no_digit}
use Rattle.trace_text.specs.Parts.{after_number, begins_with, is_free, is_sharp, longer, longest, number_read}

contrary : (t : Bool) → IsTrue t → IsTrue (not t) → ⊥
contrary true p q = cc
contrary false p q = cc

-- all blanks before a sharp form are taken
pub without_blanks : (ps : List Part) (line : List ℕ) → IsTrue (is_sharp ps)
    → readings (Blanks ∷ ps) line ≡ readings ps (drop (prefix_len is_blank line) line)
without_blanks ps [] h = append_none (readings ps [])
without_blanks ps (b ∷ more) h = by (is_blank b) refl (without_blanks ps more h)
  where
    by : (t : Bool) → is_blank b ≡ t → readings (Blanks ∷ ps) more ≡ readings ps (drop (prefix_len is_blank more) more)
        → readings ps (b ∷ more) ++ flat_map (readings ps) (cond t (after_blanks more) [])
        ≡ readings ps (drop (cond t (1 + prefix_len is_blank more) 0) (b ∷ more))
    by true e later = ap (λ xs. xs ++ flat_map (readings ps) (after_blanks more)) (no_blank ps b more h e) ∙ (later ∙ ap (λ (n : ℕ). readings ps (drop n (b ∷ more))) one_more)
      where
        one_more : suc (prefix_len is_blank more) ≡ 1 + prefix_len is_blank more
        one_more = omega arith
    by false e later = append_none (readings ps (b ∷ more))

-- the readings after a number
abbrev behind : (Read → ℤ) → List Part → Read → List (List ℤ)
behind value ps r = map (λ ns. value r ∷ ns) (readings ps r.rest)

abbrev behind_any : (Read → ℤ) → List Part → Option Read → List (List ℤ)
behind_any value ps None = []
behind_any value ps (Some r) = behind value ps r

none_behind : (ps : List Part) (n so_far : ℕ) (line : List ℕ) (q : Read) → IsTrue (is_free ps)
    → longest n so_far line ≡ Some q → readings ps line ≡ []
none_behind ps zero so_far line q h e = cc
none_behind ps (suc n) so_far [] q h e = cc
none_behind ps (suc n) so_far (b ∷ more) q h e = by (is_digit b) refl e
  where
    by : (t : Bool) → is_digit b ≡ t → cond t
        (longer (record { number = pos (10 * so_far + (b - 48)); rest = more }) (longest n (10 * so_far + (b - 48)) more))
        None ≡ Some q → readings ps (b ∷ more) ≡ []
    by true f g = no_digit ps b more h f
    by false f g = cc

further : (value : Read → ℤ) (ps : List Part) (first : Read) (n so_far : ℕ) (more : List ℕ) → first.rest ≡ more
    → IsTrue (is_free ps) → (o : Option Read) → longest n so_far more ≡ o
    → flat_map (behind value ps) (digits n so_far more) ≡ behind_any value ps o
    → behind value ps first ++ flat_map (behind value ps) (digits n so_far more) ≡ behind_any value ps (longer first o)
further value ps first n so_far more f h None e later = ap (λ xs. behind value ps first ++ xs) later ∙ append_none (behind value ps first)
further value ps first n so_far more f h (Some q) e later = no_first (none_behind ps n so_far more q h e)
  where
    no_more : (xs : List (List ℤ)) → xs ≡ [] → map (λ ns. value first ∷ ns) xs ≡ []
    no_more [] k = refl
    no_more (x ∷ xs) k = cc

    no_first : readings ps more ≡ []
        → behind value ps first ++ flat_map (behind value ps) (digits n so_far more) ≡ behind_any value ps (Some q)
    no_first k = ap (λ xs. xs ++ flat_map (behind value ps) (digits n so_far more)) (no_more (readings ps first.rest) (ap (readings ps) f ∙ k)) ∙ later

-- all digits of a number before a free form are taken
longest_taken : (value : Read → ℤ) (ps : List Part) (n so_far : ℕ) (line : List ℕ) → IsTrue (is_free ps)
    → flat_map (behind value ps) (digits n so_far line) ≡ behind_any value ps (longest n so_far line)
longest_taken value ps zero so_far line h = refl
longest_taken value ps (suc n) so_far [] h = refl
longest_taken value ps (suc n) so_far (b ∷ more) h = by (is_digit b) (longest_taken value ps n (10 * so_far + (b - 48)) more h)
  where
    by : (t : Bool) → flat_map (behind value ps) (digits n (10 * so_far + (b - 48)) more)
        ≡ behind_any value ps (longest n (10 * so_far + (b - 48)) more) → flat_map (behind value ps) (cond t
        (record { number = pos (10 * so_far + (b - 48)); rest = more } ∷ digits n (10 * so_far + (b - 48)) more) [])
        ≡ behind_any value ps (cond t
        (longer (record { number = pos (10 * so_far + (b - 48)); rest = more }) (longest n (10 * so_far + (b - 48)) more))
        None)
    by true later = further value ps (record { number = pos (10 * so_far + (b - 48)); rest = more }) n (10 * so_far + (b - 48)) more refl h (longest n (10 * so_far + (b - 48)) more) refl later
    by false later = refl

mapped_first : {A B C : Type 0} (f : A → B) (g : B → List C) (xs : List A)
    → flat_map g (map f xs) ≡ flat_map (λ x. g (f x)) xs
mapped_first f g [] = refl
mapped_first f g (x ∷ xs) = ap (λ ys. g (f x) ++ ys) (mapped_first f g xs)

-- a number with its sign
abbrev pub signed_by : (ℕ → ℤ) → Option ℕ → Option ℤ
signed_by sign None = None
signed_by sign (Some n) = Some (sign n)

after_plain : (ps : List Part) (new : List ℕ) (r : Option ℕ)
    → behind_any (λ q. q.number) ps (number_read r new) ≡ after_number (signed_by (λ n. pos n) r) ps new
after_plain ps new None = refl
after_plain ps new (Some n) = refl

after_minus : (ps : List Part) (new : List ℕ) (r : Option ℕ)
    → behind_any (λ q. neg_ℤ q.number) ps (number_read r new) ≡ after_number (signed_by (λ n. neg_ℤ (pos n)) r) ps new
after_minus ps new None = refl
after_minus ps new (Some n) = refl

pub minus_number : (old rest new : List ℕ) (r : Option ℕ) → old ≡ 45 ∷ rest → number_read r new ≡ longest 3 0 rest
    → (ps : List Part) → IsTrue (is_free ps)
    → readings (Number ∷ ps) old ≡ after_number (signed_by (λ n. neg_ℤ (pos n)) r) ps new
minus_number old rest new r e f ps h =
    let readings_is : readings (Number ∷ ps) (45 ∷ rest) ≡ flat_map (λ q. behind (λ x. neg_ℤ x.number) ps q) (digits 3 0 rest) = mapped_first negative (behind (λ q. q.number) ps) (digits 3 0 rest) in
    ap (readings (Number ∷ ps)) e ∙ (readings_is ∙ (longest_taken (λ q. neg_ℤ q.number) ps 3 0 rest h ∙ (ap (behind_any (λ q. neg_ℤ q.number) ps) (sym f) ∙ after_minus ps new r)))

plain_digits : (ps : List Part) (old : List ℕ) → begins_with 45 old ≡ false
    → readings (Number ∷ ps) old ≡ flat_map (behind (λ q. q.number) ps) (digits 3 0 old)
plain_digits ps [] e = refl
plain_digits ps (b ∷ more) e = ap (λ t. flat_map (behind (λ q. q.number) ps) (cond t (map negative (digits 3 0 more)) (digits 3 0 (b ∷ more)))) e

pub plain_number : (old new : List ℕ) (r : Option ℕ) → begins_with 45 old ≡ false → number_read r new ≡ longest 3 0 old
    → (ps : List Part) → IsTrue (is_free ps)
    → readings (Number ∷ ps) old ≡ after_number (signed_by (λ n. pos n) r) ps new
plain_number old new r e f ps h = plain_digits ps old e ∙ (longest_taken (λ q. q.number) ps 3 0 old h ∙ (ap (behind_any (λ q. q.number) ps) (sym f) ∙ after_plain ps new r))

-- the same for a number given by an equation
pub minus_number_is : (old rest new : List ℕ) (n : ℕ) (z : ℤ) → z ≡ neg_ℤ (pos n) → old ≡ 45 ∷ rest
    → number_read (Some n) new ≡ longest 3 0 rest → (ps : List Part) → IsTrue (is_free ps)
    → readings (Number ∷ ps) old ≡ map (λ ns. z ∷ ns) (readings ps new)
minus_number_is old rest new n z i e f ps h = minus_number old rest new (Some n) e f ps h ∙ ap (λ y. map (λ ns. y ∷ ns) (readings ps new)) (sym i)

pub plain_number_is : (old new : List ℕ) (n : ℕ) (z : ℤ) → z ≡ pos n → begins_with 45 old ≡ false
    → number_read (Some n) new ≡ longest 3 0 old → (ps : List Part) → IsTrue (is_free ps)
    → readings (Number ∷ ps) old ≡ map (λ ns. z ∷ ns) (readings ps new)
plain_number_is old new n z i e f ps h = plain_number old new (Some n) e f ps h ∙ ap (λ y. map (λ ns. y ∷ ns) (readings ps new)) (sym i)

-- ---- one part after another

-- blanks were taken
abbrev pub TakesBlanks : List ℕ → List ℕ → Type 0
TakesBlanks old new = (ps : List Part) → IsTrue (is_sharp ps) → readings (Blanks ∷ ps) old ≡ readings ps new

-- a number was taken, or there is none
abbrev pub TakesNumber : List ℕ → Option ℤ → List ℕ → Type 0
TakesNumber old number new = (ps : List Part) → IsTrue (is_free ps) → readings (Number ∷ ps) old ≡ after_number number ps new

-- the mark was taken, or it is missing
abbrev pub TakesMark : ℕ → List ℕ → Bool → List ℕ → Type 0
TakesMark m old found new = (ps : List Part) → readings (Mark m ∷ ps) old ≡ cond found (readings ps new) []

empty_reads : (new : List ℕ) → readings [] new ≡ cond (length new == 0) ([] ∷ []) []
empty_reads [] = refl
empty_reads (b ∷ new) = by (length (b ∷ new) == 0) refl
  where
    no : (length (b ∷ new) == 0) ≡ true → ⊥
    no e = let length_is : suc (length new) ≡ 0 = equal_by_test (length (b ∷ new)) 0 e in absurd (omega arith)

    by : (t : Bool) → (length (b ∷ new) == 0) ≡ t → readings [] (b ∷ new) ≡ cond t ([] ∷ []) []
    by true e = absurd (no e)
    by false e = refl

pub nothing_left : (old new : List ℕ) (t : Bool) → TakesBlanks old new → t ≡ (length new == 0)
    → readings (Blanks ∷ []) old ≡ cond t ([] ∷ []) []
nothing_left old new t h e = h [] refl ∙ (empty_reads new ∙ ap (λ x. cond x ([] ∷ []) []) (sym e))

pub no_number_there : (m : ℕ) (old a b : List ℕ) → IsFalse (is_digit m) → TakesBlanks old a → TakesNumber a None b
    → (ps : List Part) → readings (Blanks ∷ Number ∷ Blanks ∷ Mark m ∷ ps) old ≡ []
no_number_there m old a b d h k ps = h (Number ∷ Blanks ∷ Mark m ∷ ps) refl ∙ k (Blanks ∷ Mark m ∷ ps) (ap not d)

pub number_there : (m : ℕ) (old a b c d : List ℕ) (n z : ℤ) (found : Bool) → z ≡ n → IsFalse (is_blank m)
    → IsFalse (is_digit m) → TakesBlanks old a → TakesNumber a (Some n) b → TakesBlanks b c → TakesMark m c found d
    → (ps : List Part)
    → readings (Blanks ∷ Number ∷ Blanks ∷ Mark m ∷ ps) old ≡ map (λ ns. z ∷ ns) (cond found (readings ps d) [])
number_there m old a b c d n z found e no_blank no_digit h k l t ps =
    h (Number ∷ Blanks ∷ Mark m ∷ ps) refl ∙ (k (Blanks ∷ Mark m ∷ ps) (ap not no_digit) ∙ (ap (λ xs. map (λ ns. n ∷ ns) xs) (l (Mark m ∷ ps) (ap not no_blank) ∙ t ps) ∙ ap (λ y. map (λ ns. y ∷ ns) (cond found (readings ps d) [])) (sym e)))
