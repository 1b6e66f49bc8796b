-- A row that is forged: its voxels are those of the definition.
use Rattle.std.proofs.Common.{◌≡◌, ℕ, ◌+◌, ◌-◌, ◌%◌, ◌<◌, ◌≤◌, refl, sym, ◌∙◌, ap, inl, inr, ◌⊎◌, arith, Bool, true, false, cond, ◌&&◌, ◌||◌, ◌==◌, List, length}
use Rattle.std.specs.Prelude.{nat_lt, slice_index}
use Rattle.std.proofs.lemmas.Bool.{cases_lt}
use Rattle.std.proofs.lemmas.Bool.Decides.{nat_tests}
use Rattle.vox_geom.specs.Space.{coordinate_at, place}
use Rattle.vox_geom.proofs.Places.{coordinate_at-place}
use Rattle.vox_geom.proofs.Truths.{or_swapped}
use Rattle.vox_geom.proofs.Tests.{test_equal, test_less, test_not_less, test_unequal}
use Rattle.nano_spec.specs.Forge.{column_height, is_inner}
use Rattle.nano_spec.specs.Matrix.{Matrix}
use Rattle.vox_planes.specs.Places.{is_from, voxel_at}
use Rattle.vox_planes.proofs.Placed.{after_these, before_these, one_of_these}
use Rattle.model_forge.specs.declared.tower.Tower.{Tower}
use Rattle.model_forge.specs.Forging.{AreHeights, IsForged, is_forged, row_place}

-- ---- tests

same_test : (a b c d : ℕ) → a + d ≡ c + b → (a == c) ≡ (b == d)
same_test a b c d e = by (a == c) (b == d) refl refl
  where
    by : (s t : Bool) → (a == c) ≡ s → (b == d) ≡ t → s ≡ t
    by true true g h = refl
    by false false g h = refl
    by true false g h = grind (arith, nat_tests)
    by false true g h = grind (arith, nat_tests)

nothing_put : (b m : Bool) → ((b && false) || m) ≡ m
nothing_put true m = refl
nothing_put false m = refl

module _ (number : ℕ) (tower : Tower) (r x y : ℕ) (x_low : 1 ≤ x) (x_high : x + 1 < r) (in_y : y < r) where
  -- the row's coordinates
  in_row : (z : ℕ) → z < r → coordinate_at r (row_place r x y + z) ≡ record { x = x; y = y; z = z }
  in_row z l =
      let on : row_place r x y + z ≡ place r (record { x = x; y = y; z = z }) = omega arith in
      ap (coordinate_at r) on ∙ coordinate_at-place r (record { x = x; y = y; z = z }) (record { x = omega arith; y = in_y; z = l })

  -- whether the voxel is full, of a coordinate that is inside
  abbrev full_inside : ℕ → Bool
  full_inside z = nat_lt y (column_height number r x z) || (y + 1 == tower.height && (x % 2 == 0 || z == tower.z))

  inner_by : (z : ℕ) → 1 ≤ z → z + 1 < r → is_inner r (record { x = x; y = y; z = z }) ≡ true
  inner_by z l m = grind (arith, nat_tests)

  outer_low : is_inner r (record { x = x; y = y; z = 0 }) ≡ false
  outer_low = grind (arith, nat_tests)

  outer_high : (z : ℕ) → r ≤ z + 1 → is_inner r (record { x = x; y = y; z = z }) ≡ false
  outer_high z l = grind (arith, nat_tests)

  inside_is : (z : ℕ) → 1 ≤ z → z + 1 < r
      → is_forged number r tower (coordinate_at r (row_place r x y + z)) ≡ full_inside z
  inside_is z l m = ap (is_forged number r tower) (in_row z (omega arith)) ∙ ap (λ b. b && full_inside z) (inner_by z l m)

  first_is : is_forged number r tower (coordinate_at r (row_place r x y + 0)) ≡ false
  first_is = ap (is_forged number r tower) (in_row 0 (omega arith)) ∙ ap (λ b. b && full_inside 0) outer_low

  last_is : (z : ℕ) → z < r → r ≤ z + 1 → is_forged number r tower (coordinate_at r (row_place r x y + z)) ≡ false
  last_is z l m = ap (is_forged number r tower) (in_row z l) ∙ ap (λ b. b && full_inside z) (outer_high z m)

  module _ (heights : List ℕ) (count : length heights + 2 ≡ r) (are : AreHeights number r x heights) (old new : Matrix) (from : ℕ) (from_is : from ≡ row_place r x y + 1) where
    -- the voxels that are put into the row
    abbrev put_at : ℕ → Bool
    put_at p = (is_from from (length heights) p && (y + 1 == tower.height && (x % 2 == 0 || p + 1 == from + tower.z))) || cond (is_from from (length heights) p) (nat_lt y (slice_index heights (p - from))) (voxel_at old p)

    -- with the roof's voxels, and without them
    pub roofed : (mid : Matrix) (most : ℕ) → most ≡ length heights → y + 1 ≡ tower.height → ((p : ℕ) → voxel_at mid p
        ≡ cond (is_from from (length heights) p) (nat_lt y (slice_index heights (p - from))) (voxel_at old p))
        → ((p : ℕ) → voxel_at new p ≡ ((is_from from most p && (x % 2 == 0 || p + 1 == from + tower.z)) || voxel_at mid p))
        → (p : ℕ) → voxel_at new p ≡ put_at p
    roofed mid most em et columns roof p =
        let top : true ≡ (y + 1 == tower.height) = sym (test_equal (y + 1) tower.height et) in
        roof p ∙ (λ i. (is_from from (em i) p && (top i && (x % 2 == 0 || p + 1 == from + tower.z))) || columns p i)

    pub unroofed : (y + 1 ≡ tower.height → ⊥) → ((p : ℕ) → voxel_at new p
        ≡ cond (is_from from (length heights) p) (nat_lt y (slice_index heights (p - from))) (voxel_at old p)) → (p : ℕ)
        → voxel_at new p ≡ put_at p
    unroofed n columns p =
        let top : false ≡ (y + 1 == tower.height) = sym (test_unequal (y + 1) tower.height n) in
        columns p
        ∙ (sym (nothing_put (is_from from (length heights) p) (cond (is_from from (length heights) p) (nat_lt y (slice_index heights (p - from))) (voxel_at old p)))
        ∙ ap (λ t. (is_from from (length heights) p && (t && (x % 2 == 0 || p + 1 == from + tower.z))) || cond (is_from from (length heights) p) (nat_lt y (slice_index heights (p - from))) (voxel_at old p)) top)

    -- outside of the columns the voxel stays
    stays : (p : ℕ) → is_from from (length heights) p ≡ false → put_at p ≡ voxel_at old p
    stays p e = ap (λ b. (b && (y + 1 == tower.height && (x % 2 == 0 || p + 1 == from + tower.z))) || cond b (nat_lt y (slice_index heights (p - from))) (voxel_at old p)) e

    changes : (z : ℕ) → 1 ≤ z → z + 1 < r → put_at (row_place r x y + z) ≡ full_inside z
    changes z l m =
        let sum : ℕ = row_place r x y + z in
        let one : is_from from (length heights) (row_place r x y + z) ≡ true = one_of_these from (length heights) (row_place r x y + z) (omega arith) (omega arith) in
        let line : (row_place r x y + z + 1 == from + tower.z) ≡ (z == tower.z) = same_test (row_place r x y + z + 1) z (from + tower.z) tower.z (omega arith) in
        let index : row_place r x y + z - from ≡ z - 1 = omega arith in
        let next : z - 1 + 1 ≡ z = omega arith in
        ap (λ b. (b && (y + 1 == tower.height && (x % 2 == 0 || row_place r x y + z + 1 == from + tower.z))) || cond b (nat_lt y (slice_index heights (row_place r x y + z - from))) (voxel_at old (row_place r x y + z))) one
        ∙ ((λ i. (y + 1 == tower.height && (x % 2 == 0 || line i)) || nat_lt y (slice_index heights (index i)))
        ∙ (ap (λ h. (y + 1 == tower.height && (x % 2 == 0 || z == tower.z)) || nat_lt y h) (are.at (z - 1) (omega arith) ∙ ap (column_height number r x) next)
        ∙ or_swapped (y + 1 == tower.height && (x % 2 == 0 || z == tower.z)) (nat_lt y (column_height number r x z))))

    pub row_forged : old.resolution ≡ r → new.resolution ≡ r → ((p : ℕ) → voxel_at new p ≡ put_at p)
        → IsForged number tower old (row_place r x y) → IsForged number tower new (row_place r x (y + 1))
    row_forged eo en put h = record { voxels = λ p. put p ∙ (by p (cases_lt p (row_place r x y)) (cases_lt p (row_place r x (y + 1))) ∙ ap (λ s. nat_lt p (row_place r x (y + 1)) && is_forged number s tower (coordinate_at s p)) (sym en)) }
      where
        was : (p : ℕ) → voxel_at old p ≡ (nat_lt p (row_place r x y) && is_forged number r tower (coordinate_at r p))
        was p = h.voxels p ∙ ap (λ s. nat_lt p (row_place r x y) && is_forged number s tower (coordinate_at s p)) eo

        next : row_place r x (y + 1) ≡ row_place r x y + r
        next = omega arith

        here : (p z : ℕ) → p ≡ row_place r x y + z → z < r → ((z < 1) ⊎ (1 ≤ z)) → ((z + 1 < r) ⊎ (r ≤ z + 1))
            → put_at p ≡ is_forged number r tower (coordinate_at r p)
        here p z e l (inl m) n =
            let zero_is : z ≡ 0 = omega arith in
            let old_is : voxel_at old p ≡ false = was p ∙ ap (λ b. b && is_forged number r tower (coordinate_at r p)) (test_not_less p (row_place r x y) (omega arith)) in
            stays p (before_these from (length heights) p (omega arith)) ∙ (old_is ∙ sym (ap (λ q. is_forged number r tower (coordinate_at r q)) (e ∙ ap (λ v. row_place r x y + v) zero_is) ∙ first_is))
        here p z e l (inr m) (inl n) = ap put_at e ∙ (changes z m n ∙ sym (ap (λ q. is_forged number r tower (coordinate_at r q)) e ∙ inside_is z m n))
        here p z e l (inr m) (inr n) =
            let old_is : voxel_at old p ≡ false = was p ∙ ap (λ b. b && is_forged number r tower (coordinate_at r p)) (test_not_less p (row_place r x y) (omega arith)) in
            stays p (after_these from (length heights) p (omega arith)) ∙ (old_is ∙ sym (ap (λ q. is_forged number r tower (coordinate_at r q)) e ∙ last_is z l n))

        by : (p : ℕ) → ((p < row_place r x y) ⊎ (row_place r x y ≤ p))
            → ((p < row_place r x (y + 1)) ⊎ (row_place r x (y + 1) ≤ p))
            → put_at p ≡ (nat_lt p (row_place r x (y + 1)) && is_forged number r tower (coordinate_at r p))
        by p (inl l) m =
            stays p (before_these from (length heights) p (omega arith))
            ∙ (was p
            ∙ (ap (λ b. b && is_forged number r tower (coordinate_at r p)) (test_less p (row_place r x y) l)
            ∙ sym (ap (λ b. b && is_forged number r tower (coordinate_at r p)) (test_less p (row_place r x (y + 1)) (omega arith)))))
        by p (inr l) (inr m) =
            stays p (after_these from (length heights) p (omega arith))
            ∙ (was p
            ∙ (ap (λ b. b && is_forged number r tower (coordinate_at r p)) (test_not_less p (row_place r x y) l)
            ∙ sym (ap (λ b. b && is_forged number r tower (coordinate_at r p)) (test_not_less p (row_place r x (y + 1)) m))))
        by p (inr l) (inl m) =
            here p (p - row_place r x y) (omega arith) (omega arith) (cases_lt (p - row_place r x y) 1) (cases_lt (p - row_place r x y + 1) r)
            ∙ sym (ap (λ b. b && is_forged number r tower (coordinate_at r p)) (test_less p (row_place r x (y + 1)) m))
