-- The whole model, forged row after row.
use Rattle.std.proofs.Common.{◌≡◌, ℕ, zero, suc, ◌+◌, ◌*◌, ◌/◌, ◌%◌, ◌<◌, ◌≤◌, refl, sym, ◌∙◌, ap, subst, inl, inr, ◌⊎◌, arith, false, ◌&&◌, ◌||◌, ◌==◌, length}
use Rattle.std.specs.Prelude.{nat_lt}
use Rattle.std.proofs.Math.Nat.{div-eq_of_lt, le-div_iff_mul-le}
use Rattle.std.proofs.lemmas.Bool.{cases_lt}
use Rattle.std.proofs.lemmas.Bool.Decides.{nat_tests}
use Rattle.std.proofs.lemmas.List.{ext_get_or, get_or_past}
use Rattle.vox_geom.specs.declared.coordinate.Coord.{Coord}
use Rattle.vox_geom.specs.Space.{coordinate_at}
use Rattle.vox_geom.proofs.Tests.{test_less, test_not_less}
use Rattle.nano_spec.specs.Forge.{forged, column_height, is_inner, line_of_tallest, tallest}
use Rattle.nano_spec.specs.Matrix.{Matrix, empty, matrix_where}
use Rattle.nano_spec.specs.Model.{volume}
use Rattle.vox_planes.specs.Places.{voxel_at}
use Rattle.vox_planes.specs.Voxel.{IsWhole}
use Rattle.vox_planes.proofs.Voxels.{get_or-where, length-where, void_at}
use Rattle.model_forge.specs.declared.tower.Tower.{Tower}
use Rattle.model_forge.specs.Forging.{IsForged, is_forged, row_place}

-- a coordinate that is not above a possible column is void
outside : (number r : ℕ) (tower : Tower) (c : Coord) → is_inner r c ≡ false → is_forged number r tower c ≡ false
outside number r tower c e = ap (λ b. b && (nat_lt c.y (column_height number r c.x c.z) || (c.y + 1 == tower.height && (c.x % 2 == 0 || c.z == tower.z)))) e

-- ---- before the first wall

outer_x : (r : ℕ) (c : Coord) → c.x ≡ 0 → is_inner r c ≡ false
outer_x r c e = by c.x e
  where
    by : (x : ℕ) → x ≡ 0 → is_inner r (record c { x = x }) ≡ false
    by x g = grind (arith, nat_tests)

pub begun : (number : ℕ) (tower : Tower) (r : ℕ) (m : Matrix) → m ≡ empty r → IsForged number tower m (row_place r 1 0)
begun number tower r m e = subst (λ (n : Matrix). IsForged number tower n (row_place r 1 0)) (sym e) (record { voxels = λ p. void_at r p ∙ sym (by p (cases_lt p (row_place r 1 0))) })
  where
    by : (p : ℕ) → ((p < row_place r 1 0) ⊎ (row_place r 1 0 ≤ p))
        → (nat_lt p (row_place r 1 0) && is_forged number r tower (coordinate_at r p)) ≡ false
    by p (inr l) = ap (λ b. b && is_forged number r tower (coordinate_at r p)) (test_not_less p (row_place r 1 0) l)
    by p (inl l) =
        let first : p / (r * r) ≡ 0 = div-eq_of_lt (omega arith) in
        ap (λ b. b && is_forged number r tower (coordinate_at r p)) (test_less p (row_place r 1 0) l)
        ∙ outside number r tower (coordinate_at r p) (outer_x r (coordinate_at r p) first)

-- ---- behind the last wall

-- places from a wall on have no lower x
wall_of : (r x p : ℕ) → p < r * r * r → row_place r x 0 ≤ p → x ≤ p / (r * r)
wall_of r x p l h = by r l h
  where
    by : (s : ℕ) → p < s * s * s → row_place s x 0 ≤ p → x ≤ p / (s * s)
    by zero l h = absurd (omega (arith, l))
    by (suc s) l h =
        let some : 0 < suc s * suc s = omega arith in
        let same : x * (suc s * suc s) ≤ p = omega (arith, h) in
        (le-div_iff_mul-le {k = suc s * suc s} {x = x} {y = p} some).1 same

outer_last : (r : ℕ) (c : Coord) → r ≤ c.x + 1 → is_inner r c ≡ false
outer_last r c e = by c.x e
  where
    by : (x : ℕ) → r ≤ x + 1 → is_inner r (record c { x = x }) ≡ false
    by x g = grind (arith, nat_tests)

no_top : (y h : ℕ) → h ≡ 0 → (y + 1 == h) ≡ false
no_top y h e = grind (arith, nat_tests)

-- the test with this tower is that of the definition
tower_test : (number r : ℕ) (tower : Tower) → tower.height ≡ tallest number r
    → (0 < tower.height → tower.z ≡ line_of_tallest number r)
    → matrix_where r (is_forged number r tower) ≡ forged number r
tower_test number r tower eh ez = by tower.height refl
  where
    by : (h : ℕ) → tower.height ≡ h → matrix_where r (is_forged number r tower) ≡ forged number r
    by zero e =
        let none : tallest number r ≡ 0 = sym eh ∙ e in
        (λ i. matrix_where r (λ c. is_inner r c && (nat_lt c.y (column_height number r c.x c.z) || (no_top c.y tower.height e i && (c.x % 2 == 0 || c.z == tower.z)))))
        ∙ sym (λ i. matrix_where r (λ c. is_inner r c && (nat_lt c.y (column_height number r c.x c.z) || (no_top c.y (tallest number r) none i && (c.x % 2 == 0 || c.z == line_of_tallest number r)))))
    by (suc h) e = λ i. matrix_where r (λ c. is_inner r c && (nat_lt c.y (column_height number r c.x c.z) || (c.y + 1 == eh i && (c.x % 2 == 0 || c.z == ez (omega (arith, e)) i))))

module _ (number : ℕ) (tower : Tower) (r x : ℕ) (m : Matrix) (same_r : m.resolution ≡ r) (w : IsWhole m) (h : IsForged number tower m (row_place r x 0)) (last : r ≤ x + 1) where
  voxel : (p : ℕ) → p < r * r * r → voxel_at m p ≡ is_forged number r tower (coordinate_at r p)
  voxel p l = h.voxels p ∙ (ap (λ s. nat_lt p (row_place r x 0) && is_forged number s tower (coordinate_at s p)) same_r ∙ by (cases_lt p (row_place r x 0)))
    where
      by : ((p < row_place r x 0) ⊎ (row_place r x 0 ≤ p))
          → (nat_lt p (row_place r x 0) && is_forged number r tower (coordinate_at r p))
          ≡ is_forged number r tower (coordinate_at r p)
      by (inl k) = ap (λ b. b && is_forged number r tower (coordinate_at r p)) (test_less p (row_place r x 0) k)
      by (inr k) =
          let beyond : x ≤ p / (r * r) = wall_of r x p l k in
          let none : is_forged number r tower (coordinate_at r p) ≡ false = outside number r tower (coordinate_at r p) (outer_last r (coordinate_at r p) (omega arith)) in
          ap (λ b. b && is_forged number r tower (coordinate_at r p)) (test_not_less p (row_place r x 0) k) ∙ sym none

  all_forged : m ≡ matrix_where r (is_forged number r tower)
  all_forged = λ i. record { resolution = same_r i; voxels = same i }
    where
      size : length m.voxels ≡ r * r * r
      size = w.voxels ∙ ap volume same_r

      same : m.voxels ≡ (matrix_where r (is_forged number r tower)).voxels
      same = ext_get_or false m.voxels (matrix_where r (is_forged number r tower)).voxels (size ∙ sym (length-where r (is_forged number r tower)))
          (λ p l. let below_r : p < r * r * r = omega (arith, size) in voxel p below_r ∙ sym (get_or-where r (is_forged number r tower) p below_r))

  -- the model of the definition
  pub done : tower.height ≡ tallest number r → (0 < tower.height → tower.z ≡ line_of_tallest number r)
      → m ≡ forged number r
  done eh ez = all_forged ∙ tower_test number r tower eh ez
