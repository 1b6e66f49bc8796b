-- The full voxels of a legal model, of one that lies on the floor, and of the empty one.
use Rattle.std.proofs.Common.{◌≡◌, ℕ, ◌+◌, ◌≤◌, sym, ◌∙◌, arith, Bool, true, false, ◌&&◌, None}
use Rattle.std.specs.Prelude.{find, pos}
use Rattle.std.proofs.lemmas.Bool.Decides.{nat_tests}
use Rattle.vox_geom.specs.declared.coordinate.Coord.{Coord}
use Rattle.vox_geom.specs.Point.{Point, point, coord}
use Rattle.vox_geom.specs.Region.{Span, between, is_between, is_within}
use Rattle.vox_geom.proofs.Truths.{false_by, first_of_two, second_of_two}
use Rattle.nano_spec.specs.Matrix.{Matrix, all_of, is_full, matrix_where}
use Rattle.step_order.proofs.Lists.{both, find_none, none_find, not_both}
use Rattle.step_order.proofs.Voxels.{full_where, in_coordinates}
use Rattle.plan_tape.proofs.LegalModels.{full_within}
use Rattle.floor_planner.specs.Floor.{IsFlat}

-- a voxel that is full in the matrix of a test passes the test
pub full_passes : (r : ℕ) (test : Coord → Bool) (c : Coord) → is_full (matrix_where r test) c ≡ true → test c ≡ true
full_passes r test c f = sym (full_where r test c (full_within (matrix_where r test) c f)) ∙ f

-- if no coordinate passes both tests and the first passes, the second does not
second_fails : (m : Matrix) (test : Coord → Bool) (c : Coord) → find (λ d. is_full m d && test d) (all_of m) ≡ None
    → is_full m c ≡ true → test c ≡ false
second_fails m test c none f = false_by (test c) (λ t. not_both (both f t) (find_none (λ d. is_full m d && test d) c (all_of m) none (in_coordinates m.resolution c (full_within m c f))))

-- ---- flat models

flat_at : (most x y z : ℕ) → x ≤ most → y ≤ most → z ≤ most → (is_between (pos 0) (pos most) (pos x)
    && is_between (pos 1) (pos most) (pos y) && is_between (pos 0) (pos most) (pos z)) ≡ false → y ≡ 0
flat_at most x y z h k l e = grind (arith, nat_tests)

-- if no voxel is full from the first layer on
pub flat_where : (m : Matrix) (most : ℕ) (region : Span) → m.resolution ≤ most + 1
    → ((p : Point) → is_within region p ≡ is_within (between (point (coord 0 1 0)) (point (coord most most most))) p)
    → find (λ c. is_full m c && is_within region (point c)) (all_of m) ≡ None → IsFlat m
flat_where m most region l covers none = λ c f.
    let within_space = full_within m c f in
    let ix = within_space.x in let iy = within_space.y in let iz = within_space.z in
    flat_at most c.x c.y c.z (omega arith) (omega arith) (omega arith) (sym (covers (point c)) ∙ second_fails m (λ d. is_within region (point d)) c none f)

too_low : (most x y z : ℕ) → 1 ≤ most → y ≡ 0 → (is_between (pos 0) (pos most) (pos x)
    && is_between (pos 1) (pos most) (pos y) && is_between (pos 0) (pos most) (pos z)) ≡ false
too_low most x y z h e = grind (arith, nat_tests)

-- there is no full voxel from the first layer of a flat model on
pub void_where : (m : Matrix) (most : ℕ) (region : Span) → 1 ≤ most
    → ((p : Point) → is_within region p ≡ is_within (between (point (coord 0 1 0)) (point (coord most most most))) p)
    → IsFlat m → find (λ c. is_full m c && is_within region (point c)) (all_of m) ≡ None
void_where m most region l covers flat = none_find (λ c. is_full m c && is_within region (point c)) (all_of m) (λ c i. false_by (is_full m c && is_within region (point c)) (λ t. not_both (second_of_two (is_full m c) (is_within region (point c)) t) (covers (point c) ∙ too_low most c.x c.y c.z l (flat c (first_of_two (is_full m c) (is_within region (point c)) t)))))
