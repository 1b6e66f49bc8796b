-- Coordinates, points and space: the facts behind their tests, and the results of the tests.
use Rattle.std.proofs.Common.{◌≡◌, ◌⊎◌, inl, inr, ℕ, ◌<◌, ◌≤◌, arith, refl, true, ap, pos}
use Rattle.std.specs.Prelude.{◌==◌}
use native.Mathlib.Decide.{ℕ_discrete}
use Rattle.std.proofs.lemmas.Bool.Decides.{nat_tests}
use Rattle.vox_geom.specs.declared.coordinate.Coord.{Coord}
use Rattle.vox_geom.specs.Point.{point, same_number, same_point}
use Rattle.vox_geom.specs.Region.{is_between}
use Rattle.vox_geom.specs.Space.{IsInSpace, in_range, in_space}
use Rattle.vox_geom.proofs.Truths.{parts_of_three, three_true}

-- ---- the same number, point and coordinate

pub number_itself : (a : ℕ) → same_number (pos a) (pos a) ≡ true
number_itself a = grind (arith, nat_tests)

pub numbers_are_same : (a b : ℕ) → same_number (pos a) (pos b) ≡ true → a ≡ b
numbers_are_same a b e = grind (arith, nat_tests)

pub point_itself : (c : Coord) → same_point (point c) (point c) ≡ true
point_itself c = rw (number_itself c.x, number_itself c.y, number_itself c.z) refl

pub coordinate_by_parts : (a b : Coord) → a.x ≡ b.x → a.y ≡ b.y → a.z ≡ b.z → a ≡ b
coordinate_by_parts a b x y z = λ i. record { x = x i; y = y i; z = z i }

pub coordinate_by_test : (a b : Coord) → same_point (point a) (point b) ≡ true → a ≡ b
coordinate_by_test a b e =
    let parts = parts_of_three (same_number (pos a.x) (pos b.x)) (same_number (pos a.y) (pos b.y)) (same_number (pos a.z) (pos b.z)) e in
    coordinate_by_parts a b (numbers_are_same a.x b.x parts.0) (numbers_are_same a.y b.y parts.1) (numbers_are_same a.z b.z parts.2)

pub same_or_not : (a b : Coord) → (a ≡ b) ⊎ (a ≡ b → ⊥)
same_or_not a b = by (ℕ_discrete a.x b.x) (ℕ_discrete a.y b.y) (ℕ_discrete a.z b.z)
  where
    by : Dec (a.x ≡ b.x) → Dec (a.y ≡ b.y) → Dec (a.z ≡ b.z) → (a ≡ b) ⊎ (a ≡ b → ⊥)
    by (yes x) (yes y) (yes z) = inl (coordinate_by_parts a b x y z)
    by (yes x) (yes y) (no n) = inr (λ e. n (ap (λ (c : Coord). c.z) e))
    by (yes x) (no n) z = inr (λ e. n (ap (λ (c : Coord). c.y) e))
    by (no n) y z = inr (λ e. n (ap (λ (c : Coord). c.x) e))

-- ---- between two numbers

pub between_ends : (low high v : ℕ) → low ≤ v → v ≤ high → is_between (pos low) (pos high) (pos v) ≡ true
between_ends low high v l h = grind (arith, nat_tests)

pub from_one_end : (a b v : ℕ) → is_between (pos a) (pos b) (pos v) ≡ true → (a ≤ v) ⊎ (b ≤ v)
from_one_end a b v e = grind (arith, nat_tests)

pub from_both_ends : (a v : ℕ) → is_between (pos a) (pos a) (pos v) ≡ true → a ≤ v
from_both_ends a v e = grind (arith, nat_tests)

pub between_zeros : (v : ℕ) → is_between (pos 0) (pos 0) (pos v) ≡ true → v ≡ 0
between_zeros v e = grind (arith, nat_tests)

pub between_is_equal : (a v : ℕ) → is_between (pos a) (pos a) (pos v) ≡ (v == a)
between_is_equal a v = grind (arith, nat_tests)

-- ---- space

pub in_range_is : (r v : ℕ) → v < r → in_range r (pos v) ≡ true
in_range_is r v l = grind (arith, nat_tests)

pub range_by_test : (r v : ℕ) → in_range r (pos v) ≡ true → v < r
range_by_test r v e = grind (arith, nat_tests)

pub in_space_is : (r : ℕ) (c : Coord) → IsInSpace r c → in_space r (point c) ≡ true
in_space_is r c h = three_true (in_range r (pos c.x)) (in_range r (pos c.y)) (in_range r (pos c.z)) (in_range_is r c.x h.x) (in_range_is r c.y h.y) (in_range_is r c.z h.z)

pub space_by_test : (r : ℕ) (c : Coord) → in_space r (point c) ≡ true → IsInSpace r c
space_by_test r c e =
    let parts = parts_of_three (in_range r (pos c.x)) (in_range r (pos c.y)) (in_range r (pos c.z)) e in
    record { x = range_by_test r c.x parts.0; y = range_by_test r c.y parts.1; z = range_by_test r c.z parts.2 }
