-- The void voxels of a legal model.
use Rattle.std.proofs.Common.{◌≡◌, ℕ, ◌<◌, ◌≤◌, refl, ◌∙◌, ap, inl, inr, ◌⊎◌, arith, List, [], ◌∷◌, Bool, true, false, cond}
use Rattle.std.specs.Prelude.{count_by}
use Rattle.std.proofs.lemmas.List.Sums.{sum_by-cons}
use Rattle.vox_geom.specs.declared.coordinate.Coord.{Coord}
use Rattle.nano_spec.specs.Legal.{IsLegal}
use Rattle.nano_spec.specs.Matrix.{Matrix, all_of, is_full}
use Rattle.step_order.proofs.Lists.{In}
use Rattle.step_order.proofs.Voxels.{in_coordinates}
use Rattle.void_planner.specs.Phases.{IsVoidModel}
use Rattle.plan_tape.proofs.LegalModels.{outside_is_void, void_by_space}

-- a small legal model is void
pub small_is_void : (m : Matrix) → IsLegal m → m.resolution ≤ 2 → IsVoidModel m
small_is_void m h l = λ c. outside_is_void m c h (λ b. let along_x = b.x in let end = b.x_end in omega arith)

-- ---- the number of full voxels

none_full : (m : Matrix) (cs : List Coord) → IsVoidModel m → count_by (is_full m) cs ≡ 0
none_full m [] v = refl
none_full m (c ∷ cs) v =
    let sum_is = sum_by-cons (λ d. cond {A = ℕ} (is_full m d) 1 0) c cs in
    let full_count_zero : cond {A = ℕ} (is_full m c) 1 0 ≡ 0 = ap (λ t. cond {A = ℕ} t 1 0) (v c) in
    let count_is : count_by (is_full m) cs ≡ 0 = none_full m cs v in
    omega (arith, sum_is, full_count_zero, count_is)

pub void_count : (m : Matrix) → IsVoidModel m → count_by (is_full m) (all_of m) ≡ 0
void_count m v = none_full m (all_of m) v

count_void : (m : Matrix) (cs : List Coord) → count_by (is_full m) cs ≡ 0 → (c : Coord) → In c cs → is_full m c ≡ false
count_void m [] e c i = absurd i
count_void m (d ∷ cs) e c i = by i (count_void m cs (let sum_is = sum_by-cons (λ x. cond {A = ℕ} (is_full m x) 1 0) d cs in omega (arith, sum_is, e)) c)
  where
    here : (b : Bool) → cond {A = ℕ} b 1 0 ≡ 0 → b ≡ false
    here true z = absurd (omega arith)
    here false z = refl

    by : (c ≡ d) ⊎ In c cs → (In c cs → is_full m c ≡ false) → is_full m c ≡ false
    by (inl f) later = ap (is_full m) f ∙ here (is_full m d) (let sum_is = sum_by-cons (λ x. cond {A = ℕ} (is_full m x) 1 0) d cs in omega (arith, sum_is, e))
    by (inr j) later = later j

-- if no voxel is counted, all is void
pub none_counted : (m : Matrix) → count_by (is_full m) (all_of m) ≡ 0 → IsVoidModel m
none_counted m e = λ c. void_by_space m c (λ i. count_void m (all_of m) e c (in_coordinates m.resolution c i))

-- a legal model that is not void has room
pub has_room : (m : Matrix) → IsLegal m → (IsVoidModel m → ⊥) → 2 ≤ m.resolution
has_room m h full = by (less_or_not m.resolution 2)
  where
    less_or_not : (a b : ℕ) → (a < b) ⊎ (b ≤ a)
    less_or_not a b = grind arith

    by : (m.resolution < 2) ⊎ (2 ≤ m.resolution) → 2 ≤ m.resolution
    by (inl l) = absurd (full (small_is_void m h (omega arith)))
    by (inr l) = l
