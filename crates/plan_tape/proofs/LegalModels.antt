-- The void and the full voxels of a legal model, when two models are the same, and which are grounded.
use Rattle.std.proofs.Common.{◌≡◌, ℕ, ◌+◌, ◌-◌, ◌<◌, ◌≤◌, nat_le, nat_lt, refl, sym, ◌∙◌, ap, subst, arith, List, [], ◌∷◌, Bool, true, false, ◌&&◌, not}
use Rattle.std.specs.Prelude.{IsTrue, None}
use Rattle.vox_geom.specs.declared.coordinate.Coord.{Coord}
use Rattle.vox_geom.specs.Point.{point}
use Rattle.vox_geom.specs.Space.{IsInSpace, in_space}
use Rattle.vox_geom.proofs.Truths.{false_by, first_of_two, no_first, second_by_and_not}
use Rattle.vox_geom.proofs.Tests.{at_most_by_test, less_by_test}
use Rattle.vox_geom.proofs.Points.{space_by_test}
use Rattle.nano_spec.specs.First.{FirstFailing}
use Rattle.nano_spec.specs.Grounded.{FirstUngrounded, Grounded}
use Rattle.nano_spec.specs.Legal.{IsLegal, in_legal_box, stands_inside}
use Rattle.nano_spec.specs.Matrix.{Matrix, all_of, empty, is_full, matrix_where}
use Rattle.nano_spec.proofs.Opening.{legal_is}
use Rattle.step_order.proofs.Lists.{find_none, none_find}
use Rattle.step_order.proofs.Voxels.{as_it_is, full_where, in_coordinates, matrix_same}
use Rattle.vox_planes.specs.Voxel.{IsWhole}
use Rattle.plan_tape.specs.Progress.{IsVoidFrom}

-- a full voxel is in space
pub full_within : (m : Matrix) (c : Coord) → is_full m c ≡ true → IsInSpace m.resolution c
full_within m c h = space_by_test m.resolution c (first_of_two (in_space m.resolution (point c)) _ h)

-- a voxel is void if it is so in space
pub void_by_space : (m : Matrix) (c : Coord) → (IsInSpace m.resolution c → is_full m c ≡ false) → is_full m c ≡ false
void_by_space m c h = by (in_space m.resolution (point c)) refl
  where
    by : (t : Bool) → in_space m.resolution (point c) ≡ t → is_full m c ≡ false
    by true e = h (space_by_test m.resolution c e)
    by false e = no_first (in_space m.resolution (point c)) _ e

-- ---- legal models

-- the sides of the legal box
pub record IsInBox (r : ℕ) (c : Coord) : Type 0 where
  pub x : 1 ≤ c.x
  pub x_end : c.x + 1 < r
  pub y_end : c.y + 1 < r
  pub z : 1 ≤ c.z
  pub z_end : c.z + 1 < r

five : (a b c d e : Bool) → (a && b && c && d && e) ≡ true
    → (a ≡ true) × (b ≡ true) × (c ≡ true) × (d ≡ true) × (e ≡ true)
five true true true true true h = (refl, refl, refl, refl, refl)
five true true true true false h = cc
five true true true false e h = cc
five true true false d e h = cc
five true false c d e h = cc
five false b c d e h = cc

-- a full voxel of a legal model is in the legal box
pub full_in_box : (m : Matrix) (c : Coord) → IsLegal m → is_full m c ≡ true → IsInBox m.resolution c
full_in_box m c h f =
    let resolution = m.resolution in
    let inside = second_by_and_not (is_full m c) (in_legal_box resolution c) (find_none (λ d. is_full m d && not (in_legal_box resolution d)) c (all_of m) (legal_is m h).0 (in_coordinates resolution c (full_within m c f))) f in
    let five_here = five (nat_le 1 c.x) (nat_lt (c.x + 1) resolution) (nat_lt (c.y + 1) resolution) (nat_le 1 c.z) (nat_lt (c.z + 1) resolution) inside in
    record { x = at_most_by_test 1 c.x five_here.0; x_end = less_by_test (c.x + 1) resolution five_here.1; y_end = less_by_test (c.y + 1) resolution five_here.2; z = at_most_by_test 1 c.z five_here.3; z_end = less_by_test (c.z + 1) resolution five_here.4 }

-- so a voxel that cannot be there is void
pub outside_is_void : (m : Matrix) (c : Coord) → IsLegal m → (IsInBox m.resolution c → ⊥) → is_full m c ≡ false
outside_is_void m c h out = false_by (is_full m c) (λ f. absurd (out (full_in_box m c h f)))

pub void_at_border : (m : Matrix) → IsLegal m → (c : Coord) → c.x ≡ 0 → is_full m c ≡ false
void_at_border m h c e = outside_is_void m c h (λ b. let along_x = b.x in omega arith)

pub void_at_top : (m : Matrix) → IsLegal m → IsVoidFrom m (m.resolution - 1)
void_at_top m h = λ c l. outside_is_void m c h (λ b. let y_end = b.y_end in omega arith)

-- a matrix that is a legal model is grounded
pub grounded_at : (m n : Matrix) → m ≡ n → IsLegal n → FirstUngrounded m None
grounded_at m n e h = subst (λ (k : Matrix). FirstUngrounded k None) (sym e) (legal_is n h).1

-- ---- void models

-- the empty model is void
pub empty_is_void : (r : ℕ) (c : Coord) → is_full (empty r) c ≡ false
empty_is_void r c = void_by_space (empty r) c (λ i. full_where r (λ _. false) c i)

-- a matrix without a full voxel is grounded
pub void_is_grounded : (m : Matrix) → ((c : Coord) → is_full m c ≡ false) → FirstUngrounded m None
void_is_grounded m v = all (all_of m)
  where
    all : (cs : List Coord) → FirstFailing (λ c. IsTrue (is_full m c) → Grounded m c) cs None
    all [] = tt
    all (c ∷ cs) = ((λ t. absurd (let impossible = sym (v c) ∙ t in cc)), all cs)

-- and legal
pub void_is_legal : (m : Matrix) → ((c : Coord) → is_full m c ≡ false) → IsLegal m
void_is_legal m v = stands_inside (none_find (λ c. is_full m c && not (in_legal_box m.resolution c)) (all_of m) (λ c i. ap (λ b. b && not (in_legal_box m.resolution c)) (v c))) (void_is_grounded m v) refl

-- ---- the same models

pub alike_is_same : (m n : Matrix) → IsWhole m → IsWhole n → m.resolution ≡ n.resolution
    → ((c : Coord) → IsInSpace m.resolution c → is_full m c ≡ is_full n c) → m ≡ n
alike_is_same m n v w e h =
    sym (as_it_is m v.voxels)
    ∙ (matrix_same m.resolution (is_full m) (is_full n) h
    ∙ (ap (λ r. matrix_where r (is_full n)) e ∙ as_it_is n w.voxels))
