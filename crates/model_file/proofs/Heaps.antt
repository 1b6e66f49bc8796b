-- Without overhangs each full voxel is grounded, by the voxels below it.
use Rattle.std.proofs.Common.{◌≡◌, ℕ, zero, suc, refl, arith, List, [], ◌∷◌, inl, inr}
use Rattle.std.specs.Prelude.{IsTrue, ◌⊎◌, None}
use Rattle.vox_geom.specs.declared.coordinate.Coord.{Coord}
use Rattle.nano_spec.specs.First.{FirstFailing}
use Rattle.nano_spec.specs.Grounded.{FirstUngrounded, Grounded}
use Rattle.nano_spec.specs.Matrix.{Matrix, all_of, is_full}
use Rattle.nano_spec.proofs.ForgeLegal.{on_floor, one_more}
use Rattle.vox_geom.specs.Point.{below as under}
use Rattle.vox_planes.specs.Heap.{HasNoOverhangs}
use Rattle.vox_geom.proofs.Adjacent.{adjacent_by}

-- a voxel at this height is grounded
grounded_from : (m : Matrix) → HasNoOverhangs m → (y : ℕ) (c : Coord) → c.y ≡ y → IsTrue (is_full m c) → Grounded m c
grounded_from m heap zero c e f = on_floor m c f e
grounded_from m heap (suc y) c e f = by (heap c f) (grounded_from m heap y (under c) (omega arith))
  where
    by : ((c.y ≡ 0) ⊎ IsTrue (is_full m (under c))) → (IsTrue (is_full m (under c)) → Grounded m (under c))
        → Grounded m c
    by (inl floor) lower = on_floor m c f floor
    by (inr below) lower = one_more m c (under c) f (adjacent_by c (under c) (omega arith)) (lower below)

none_failing : {A : Type 0} (P : A → Type 0) → ((a : A) → P a) → (xs : List A) → FirstFailing P xs None
none_failing P all [] = tt
none_failing P all (a ∷ xs) = (all a, none_failing P all xs)

pub grounded_without_overhangs : (m : Matrix) → HasNoOverhangs m → FirstUngrounded m None
grounded_without_overhangs m heap = none_failing (λ c. IsTrue (is_full m c) → Grounded m c) (λ c f. grounded_from m heap c.y c refl f) (all_of m)
