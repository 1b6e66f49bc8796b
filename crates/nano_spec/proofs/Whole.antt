-- A model that bytes encode has a resolution of 1 to 400 and a voxel for each coordinate.
use Rattle.std.proofs.Common.{◌≡◌, ℕ, ◌+◌, ◌*◌, ◌≤◌, refl, sym, ◌∙◌, ap, subst, arith, Bool, true, false, ◌&&◌, not, ◌==◌, List, [], ◌∷◌, ◌++◌, length, length-append, map, replicate}
use Rattle.std.specs.Prelude.{Result, Ok, Err, nat_le, nat_lt}
use Rattle.std.proofs.lemmas.Bool.Decides.{nat_tests}
use Rattle.std.proofs.lemmas.List.{length-map, length-replicate}
use Rattle.vox_geom.specs.Space.{numbers_below}
use Rattle.vox_geom.proofs.Tests.{between_by_tests}
use Rattle.vox_geom.proofs.Sums.{numbers_length}
use Rattle.nano_spec.specs.First.{with_first}
use Rattle.nano_spec.specs.Matrix.{Matrix}
use Rattle.nano_spec.specs.Model.{NoModel, Resolution, Short, Long, WideResolution, WideRun, WideShort, WideLong, first_form, is_no_run, model, number_of_four, of_runs, runs_in, volume, voxel_bit, voxels_of, wanted, wide_form, wide_model}

-- the resolution is 1 to 400, and the model has a voxel for each coordinate
pub record IsWhole (m : Matrix) : Type 0 where
  pub some : 1 ≤ m.resolution
  pub most : m.resolution ≤ 400
  pub whole : length m.voxels ≡ volume m.resolution

is_ok : {A E : Type 0} {a b : A} → ◌≡◌ {A = Result A E} (Ok a) (Ok b) → a ≡ b
is_ok h = cc

-- ---- the first form

first_whole : (r : ℕ) (bytes : List ℕ) (m : Matrix) → first_form r bytes ≡ Ok m → IsWhole m
first_whole r bytes m h = by (nat_le 1 r && nat_le r 250) (nat_lt (length bytes) (wanted r)) (nat_lt (wanted r) (length bytes)) refl h
  where
    answer : Bool → Bool → Bool → Result Matrix NoModel
    answer a b c =
        elim a [
          | false ↦ Err (Resolution r)
          | true ↦ elim b [
            | true ↦ Err (Short (wanted r) (length bytes))
            | false ↦ elim c [
              | true ↦ Err (Long (wanted r))
              | false ↦ Ok (record { resolution = r; voxels = map (voxel_bit bytes) (numbers_below (volume r)) })
            ]
          ]
        ]

    by : (a b c : Bool) → (nat_le 1 r && nat_le r 250) ≡ a → answer a b c ≡ Ok m → IsWhole m
    by false b c e k = cc
    by true true c e k = cc
    by true false true e k = cc
    by true false false e k =
        let between = between_by_tests r 1 250 e in
        subst (λ (n : Matrix). IsWhole n) (is_ok k) (record {
          some = between.0;
          most = omega (arith, between.1);
          whole = length-map (numbers_below (volume r)) (voxel_bit bytes) ∙ numbers_length 0 (volume r);
        })

-- ---- the wide form

sum_of : List ℕ → ℕ
sum_of [] = 0
sum_of (n ∷ ns) = n + sum_of ns

voxels_length : (value : Bool) (runs : List ℕ) → length (voxels_of value runs) ≡ sum_of runs
unfolding sum_of
voxels_length value [] = refl
voxels_length value (run ∷ runs) =
    let same_length : length (replicate run value ++ voxels_of (not value) runs) ≡ length (replicate run value) + length (voxels_of (not value) runs) = length-append (replicate run value) (voxels_of (not value) runs) in
    let replicate_length : length (replicate run value) ≡ run = length-replicate run value in
    let length_is : length (voxels_of (not value) runs) ≡ sum_of runs = voxels_length (not value) runs in
    same_length ∙ (λ i. replicate_length i + length_is i)

within : (total index sum run : ℕ) → is_no_run total index sum run ≡ false → sum + run ≤ total
within total index sum run h = grind (arith, nat_tests)

at_end : (sum total : ℕ) → nat_lt sum total ≡ false → sum ≤ total → sum ≡ total
at_end sum total h l = grind (arith, nat_tests)

no_whole_run : (sum total : ℕ) (runs : List ℕ) (b : Bool)
    → ◌≡◌ {A = Result (List ℕ) NoModel} (elim b [ true ↦ Err (WideShort sum) | false ↦ Err WideLong ]) (Ok runs) → ⊥
no_whole_run sum total runs true h = cc
no_whole_run sum total runs false h = cc

runs_sum : (bytes : List ℕ) (total index sum : ℕ) (runs : List ℕ) → sum ≤ total
    → runs_in total index sum bytes ≡ Ok runs → sum + sum_of runs ≡ total
unfolding sum_of
runs_sum [] total index sum runs l h = by (nat_lt sum total) refl h
  where
    by : (b : Bool) → nat_lt sum total ≡ b
        → ◌≡◌ {A = Result (List ℕ) NoModel} (elim b [ true ↦ Err (WideShort sum) | false ↦ Ok [] ]) (Ok runs)
        → sum + sum_of runs ≡ total
    by true e k = cc
    by false e k = ap (λ ns. sum + sum_of ns) (sym (is_ok k)) ∙ (let sum_is : sum ≡ total = at_end sum total e l in omega arith)
runs_sum (a ∷ []) total index sum runs l h = absurd (no_whole_run sum total runs (nat_lt sum total) h)
runs_sum (a ∷ b ∷ []) total index sum runs l h = absurd (no_whole_run sum total runs (nat_lt sum total) h)
runs_sum (a ∷ b ∷ c ∷ []) total index sum runs l h = absurd (no_whole_run sum total runs (nat_lt sum total) h)
runs_sum (a ∷ b ∷ c ∷ d ∷ more) total index sum runs l h =
    by (nat_lt sum total) (is_no_run total index sum (number_of_four a b c d)) refl (runs_in total (index + 1) (sum + number_of_four a b c d) more) (λ ns m. runs_sum more total (index + 1) (sum + number_of_four a b c d) ns m) h
  where
    by : (p q : Bool) → is_no_run total index sum (number_of_four a b c d) ≡ q → (rest : Result (List ℕ) NoModel)
        → ((ns : List ℕ) → sum + number_of_four a b c d ≤ total → rest ≡ Ok ns
        → (sum + number_of_four a b c d) + sum_of ns ≡ total) → ◌≡◌ {A = Result (List ℕ) NoModel} (elim p
        [ false ↦ Err WideLong | true ↦ elim q [ true ↦ Err (WideRun index) | false ↦ with_first (number_of_four a b c d) rest ] ])
        (Ok runs) → sum + sum_of runs ≡ total
    by false q e rest later k = cc
    by true true e rest later k = cc
    by true false e (Err w) later k = cc
    by true false e (Ok ns) later k =
        let number_of_word = number_of_four a b c d in
        let later_on : (sum + number_of_word) + sum_of ns ≡ total = later ns (within total index sum number_of_word e) refl in
        ap (λ ks. sum + sum_of ks) (sym (is_ok k)) ∙ (let sum_is : sum + (number_of_word + sum_of ns) ≡ total = omega arith in sum_is)

wide_whole : (r : ℕ) (bytes : List ℕ) (m : Matrix) → wide_model r bytes ≡ Ok m → IsWhole m
unfolding sum_of
wide_whole r bytes m h = by (nat_le 251 r && nat_le r 400) (runs_in (volume r) 0 0 bytes) refl refl h
  where
    by : (b : Bool) (runs : Result (List ℕ) NoModel) → (nat_le 251 r && nat_le r 400) ≡ b
        → runs_in (volume r) 0 0 bytes ≡ runs
        → ◌≡◌ {A = Result Matrix NoModel} (elim b [ false ↦ Err (WideResolution r) | true ↦ of_runs r runs ]) (Ok m)
        → IsWhole m
    by false runs e f k = cc
    by true (Err w) e f k = cc
    by true (Ok runs) e f k =
        let runs_sum_here : 0 + sum_of runs ≡ volume r = runs_sum bytes (volume r) 0 0 runs (omega arith) f in
        let length_is : length (voxels_of false runs) ≡ sum_of runs = voxels_length false runs in
        let between = between_by_tests r 251 400 e in
        subst (λ (n : Matrix). IsWhole n) (is_ok k) (record { some = omega (arith, between.0); most = between.1; whole = length_is ∙ (let sum_is : sum_of runs ≡ volume r = omega arith in sum_is) })

form_whole : (bytes : List ℕ) (m : Matrix) → wide_form bytes ≡ Ok m → IsWhole m
form_whole [] m h = cc
form_whole (a ∷ []) m h = cc
form_whole (high ∷ low ∷ runs) m h = wide_whole (high * 256 + low) runs m h

-- ---- both forms

pub model_whole : (bytes : List ℕ) (m : Matrix) → model bytes ≡ Ok m → IsWhole m
model_whole [] m h = cc
model_whole (r ∷ more) m h = by (r == 0xFF) h
  where
    by : (b : Bool)
        → ◌≡◌ {A = Result Matrix NoModel} (elim b [ true ↦ wide_form more | false ↦ first_form r (r ∷ more) ]) (Ok m)
        → IsWhole m
    by true k = form_whole more m k
    by false k = first_whole r (r ∷ more) m k
