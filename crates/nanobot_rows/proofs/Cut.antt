-- The first bytes of a file that is longer than every model decide its refusal as all its bytes do.
use Rattle.std.proofs.Common.{◌≡◌, ℕ, ◌+◌, ◌*◌, ◌/◌, ◌-◌, ◌<◌, ◌≤◌, refl, sym, ◌∙◌, ap, arith, List, [], ◌∷◌, ◌++◌, Bool, true, false, ◌&&◌, ◌==◌, nat_le, nat_lt, length, map, take, drop, ◌⊎◌, inl, inr}
use Rattle.std.specs.Prelude.{Result, Ok, Err}
use Rattle.std.proofs.lemmas.Bool.Decides.{nat_tests}
use Rattle.std.proofs.lemmas.List.{length-take, take-append-drop, take_all}
use Rattle.std.proofs.lemmas.Bool.{cases_lt}
use Rattle.std.proofs.Math.Nat.{mul-le-mul}
use Rattle.nano_spec.specs.First.{with_first}
use Rattle.nano_spec.specs.Matrix.{Matrix}
use Rattle.vox_geom.specs.Space.{numbers_below}
use Rattle.vox_geom.proofs.Tests.{test_less}
use Rattle.nano_spec.specs.Model.{NoModel, Long, Resolution, Short, WideLong, WideResolution, WideRun, WideShort, model, first_form, is_no_run, number_of_four, of_runs, runs_in, volume, voxel_bit, wanted, wide_form, wide_model}

-- ---- choices

abbrev choose : {A : Type 0} → A → A → Bool → A
choose a b t = elim t [ true ↦ a | false ↦ b ]

where_true : {A : Type 0} (t : Bool) (a c b : A) → (t ≡ true → a ≡ c) → choose a b t ≡ choose c b t
where_true true a c b h = h refl
where_true false a c b h = refl

where_both : {A : Type 0} (w n : Bool) (z b a c : A) → (w ≡ true → n ≡ false → a ≡ c)
    → choose (choose z a n) b w ≡ choose (choose z c n) b w
where_both true true z b a c h = refl
where_both true false z b a c h = h refl refl
where_both false n z b a c h = refl

-- ---- the wide form

ended : (total index sum : ℕ) (x : ℕ) (xs : List ℕ) → nat_lt sum total ≡ false
    → runs_in total index sum (x ∷ xs) ≡ Err WideLong
ended total index sum x [] e = ap (choose (Err (WideShort sum)) (Err WideLong)) e
ended total index sum x (a ∷ []) e = ap (choose (Err (WideShort sum)) (Err WideLong)) e
ended total index sum x (a ∷ b ∷ []) e = ap (choose (Err (WideShort sum)) (Err WideLong)) e
ended total index sum x (a ∷ b ∷ c ∷ more) e =
    let run = number_of_four x a b c in
    ap (choose (choose (Err (WideRun index)) (with_first run (runs_in total (index + 1) (sum + run) more)) (is_no_run total index sum run)) (Err WideLong)) e

full : (total sum : ℕ) → total ≤ sum → nat_lt sum total ≡ false
full total sum h = grind (arith, nat_tests)

wanting : (total sum : ℕ) → nat_lt sum total ≡ true → sum < total
wanting total sum e = grind (arith, nat_tests)

some_run : (total index sum run : ℕ) → 0 < index → is_no_run total index sum run ≡ false → 0 < run
some_run total index sum run h e = grind (arith, nat_tests)

-- each run but the first is at least 1, so no more runs are looked at than voxels are left
later_same : (total index sum left : ℕ) (xs ys : List ℕ) → 0 < index → total ≤ sum + left → 4 * left < length xs
    → runs_in total index sum (xs ++ ys) ≡ runs_in total index sum xs
later_same total index sum left [] ys i t h = absurd (omega arith)
later_same total index sum left (a ∷ []) ys i t h = let full_here = full total sum (omega arith) in ended total index sum a ys full_here ∙ sym (ended total index sum a [] full_here)
later_same total index sum left (a ∷ b ∷ []) ys i t h = let full_here = full total sum (omega arith) in ended total index sum a (b ∷ ys) full_here ∙ sym (ended total index sum a (b ∷ []) full_here)
later_same total index sum left (a ∷ b ∷ c ∷ []) ys i t h = let full_here = full total sum (omega arith) in ended total index sum a (b ∷ c ∷ ys) full_here ∙ sym (ended total index sum a (b ∷ c ∷ []) full_here)
later_same total index sum left (a ∷ b ∷ c ∷ d ∷ more) ys i t h =
    let run = number_of_four a b c d in
    where_both (nat_lt sum total) (is_no_run total index sum run) (Err (WideRun index)) (Err WideLong)
    (with_first run (runs_in total (index + 1) (sum + run) (more ++ ys))) (with_first run (runs_in total (index + 1) (sum + run) more))
    (λ e f. let wanting_here = wanting total sum e in
    let run_positive = some_run total index sum run i f in
    ap (with_first run) (later_same total (index + 1) (sum + run) (left - 1) more ys (omega arith) (omega arith) (omega arith)))

first_same : (total left : ℕ) (xs ys : List ℕ) → total ≤ left → 4 * left + 4 < length xs
    → runs_in total 0 0 (xs ++ ys) ≡ runs_in total 0 0 xs
first_same total left [] ys t h = absurd (omega arith)
first_same total left (a ∷ []) ys t h = absurd (omega arith)
first_same total left (a ∷ b ∷ []) ys t h = absurd (omega arith)
first_same total left (a ∷ b ∷ c ∷ []) ys t h = absurd (omega arith)
first_same total left (a ∷ b ∷ c ∷ d ∷ more) ys t h =
    let run = number_of_four a b c d in
    where_both (nat_lt 0 total) (is_no_run total 0 0 run) (Err (WideRun 0)) (Err WideLong)
    (with_first run (runs_in total (0 + 1) (0 + run) (more ++ ys))) (with_first run (runs_in total (0 + 1) (0 + run) more))
    (λ e f. ap (with_first run) (later_same total (0 + 1) (0 + run) left more ys (omega arith) (omega arith) (omega arith)))

wide_same : (r n : ℕ) (runs : List ℕ) → 256000004 < n → n ≤ length runs → wide_model r (take n runs) ≡ wide_model r runs
wide_same r n runs h l =
    where_true (nat_le 251 r && nat_le r 400) (of_runs r (runs_in (volume r) 0 0 (take n runs))) (of_runs r (runs_in (volume r) 0 0 runs)) (Err (WideResolution r))
    (λ e. let size : length (take n runs) ≡ n = length-take n runs ∙ omega arith in
    let most : r * r * r ≤ 400 * 400 * 400 = mul-le-mul (mul-le-mul (at_most e) (at_most e)) (at_most e) in
    ap (of_runs r) (sym (first_same (volume r) 64000000 (take n runs) (drop n runs) (omega (arith, most)) (omega (arith, size))) ∙ ap (runs_in (volume r) 0 0) (take-append-drop n runs)))
  where
    at_most : (nat_le 251 r && nat_le r 400) ≡ true → r ≤ 400
    at_most e = grind (arith, nat_tests)

-- ---- the first form

abbrev sized : ℕ → List ℕ → Result Matrix NoModel
sized r bytes = choose (Err (Short (wanted r) (length bytes))) (choose (Err (Long (wanted r))) (Ok (record { resolution = r; voxels = map (voxel_bit bytes) (numbers_below (volume r)) })) (nat_lt (wanted r) (length bytes))) (nat_lt (length bytes) (wanted r))

long : (r : ℕ) (bytes : List ℕ) → wanted r < length bytes → sized r bytes ≡ Err (Long (wanted r))
long r bytes h =
    let read : Result Matrix NoModel = Ok (record { resolution = r; voxels = map (voxel_bit bytes) (numbers_below (volume r)) }) in
    ap (choose (Err (Short (wanted r) (length bytes))) (choose (Err (Long (wanted r))) read (nat_lt (wanted r) (length bytes)))) (full (wanted r) (length bytes) (omega arith))
    ∙ ap (choose (Err (Long (wanted r))) read) (test_less (wanted r) (length bytes) h)

first_form_same : (r : ℕ) (xs ys : List ℕ) → 2000000 < length xs → 2000000 < length ys
    → first_form r xs ≡ first_form r ys
first_form_same r xs ys h k =
    where_true (nat_le 1 r && nat_le r 250) (sized r xs) (sized r ys) (Err (Resolution r))
    (λ e. let most : r * r * r ≤ 250 * 250 * 250 = mul-le-mul (mul-le-mul (at_most e) (at_most e)) (at_most e) in
    let few : wanted r ≤ 2000000 = few_wanted (r * r * r) most in
    long r xs (omega (arith, few)) ∙ sym (long r ys (omega (arith, few))))
  where
    at_most : (nat_le 1 r && nat_le r 250) ≡ true → r ≤ 250
    at_most e = grind (arith, nat_tests)

    few_wanted : (v : ℕ) → v ≤ 15625000 → 1 + (v + 7) / 8 ≤ 2000000
    few_wanted v h = omega arith

-- ---- both

wide_form_same : (more : List ℕ) → 256000007 ≤ length more → wide_form (take 256000007 more) ≡ wide_form more
wide_form_same [] h = absurd (omega arith)
wide_form_same (a ∷ []) h = absurd (omega arith)
wide_form_same (a ∷ b ∷ runs) h = wide_same (a * 256 + b) 256000005 runs (omega arith) (omega arith)

longer : (file : List ℕ) → 256000008 < length file → model (take 256000008 file) ≡ model file
longer [] h = absurd (omega arith)
longer (r ∷ more) h =
    let size : length (take 256000007 more) ≡ 256000007 = length-take 256000007 more ∙ omega arith in
    λ i. choose (wide_form_same more (omega arith) i) (first_form_same r (r ∷ take 256000007 more) (r ∷ more) (omega (arith, size)) (omega arith) i) (r == 0xFF)

pub cut_is : (file : List ℕ) → model (take 256000008 file) ≡ model file
cut_is file = by (cases_lt 256000008 (length file))
  where
    by : ((256000008 < length file) ⊎ (length file ≤ 256000008)) → model (take 256000008 file) ≡ model file
    by (inl h) = longer file h
    by (inr h) = ap model (take_all 256000008 file h)
