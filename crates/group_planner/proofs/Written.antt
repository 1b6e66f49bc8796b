-- The voxels that the pair writes into the row below.
use Rattle.std.proofs.Common.{◌≡◌, ℕ, ◌+◌, ◌-◌, ◌<◌, ◌≤◌, refl, sym, ◌∙◌, ap, arith, Bool, true, false, cond, ◌&&◌, ◌==◌, nat_le, nat_lt}
use Rattle.std.specs.Prelude.{pos, ◌-ℤ◌, ◌+ℤ◌, negsuc}
use Rattle.std.proofs.lemmas.Int.{ints}
use Rattle.std.proofs.lemmas.Bool.Decides.{nat_tests}
use Rattle.vox_geom.specs.declared.coordinate.Coord.{Coord}
use Rattle.vox_geom.specs.Point.{point, plus, coord}
use Rattle.vox_geom.specs.Region.{between, is_between, is_within}
use Rattle.vox_geom.specs.Space.{IsInSpace, in_space}
use Rattle.vox_geom.proofs.Points.{between_is_equal, in_space_is, space_by_test}
use Rattle.nano_spec.specs.Matrix.{Matrix, is_full}
use Rattle.step_order.specs.Acting.{with_region}
use Rattle.step_order.proofs.Voxels.{full_where}
use Rattle.plan_tape.proofs.Parts.{void_out}
use Rattle.group_planner.specs.Pair.{AreSet, in_part}
use Rattle.plan_tape.specs.Progress.{IsVoidFrom}

-- ---- regions along z

from_to : (a b v : ℕ) → a ≤ b → is_between (pos a) (pos b) (pos v) ≡ (nat_le a v && nat_lt v (b + 1))
from_to a b v h = grind (arith, nat_tests)

flat : (s t u v : Bool) → (s && t && (u && v)) ≡ (s && t && u && v)
flat true true u v = refl
flat true false u v = refl
flat false t u v = refl

part_is : (x y a b : ℕ) (c : Coord) → a ≤ b
    → is_within (between (point (coord x y a)) (point (coord x y b))) (point c) ≡ in_part x y a (b + 1) c
part_is x y a b c h = (λ i. between_is_equal x c.x i && between_is_equal y c.y i && from_to a b c.z h i) ∙ flat (c.x == x) (c.y == y) (nat_le a c.z) (nat_lt c.z (b + 1))

out_of_part : (r x y a b : ℕ) (c : Coord) → x < r → y < r → b < r → in_space r (point c) ≡ false
    → in_part x y a (b + 1) c ≡ false
out_of_part r x y a b c hx hy hb o = by (in_part x y a (b + 1) c) refl
  where
    low : (s t u v : Bool) → (s && t && u && v) ≡ true → (s ≡ true) × (t ≡ true) × (v ≡ true)
    low true true true true e = (refl, refl, refl)
    low true true true false e = cc
    low true true false v e = cc
    low true false u v e = cc
    low false t u v e = cc

    equal : (v w : ℕ) → (v == w) ≡ true → v ≡ w
    equal v w e = grind (arith, nat_tests)

    less : (v w : ℕ) → nat_lt v w ≡ true → v < w
    less v w e = grind (arith, nat_tests)

    by : (t : Bool) → in_part x y a (b + 1) c ≡ t → in_part x y a (b + 1) c ≡ false
    by false e = e
    by true e =
        let low_here = low (c.x == x) (c.y == y) (nat_le a c.z) (nat_lt c.z (b + 1)) e in
        let ex = equal c.x x low_here.0 in
        let ey = equal c.y y low_here.1 in
        let lz = less c.z (b + 1) low_here.2 in
        let is_in_space : IsInSpace r c = record { x = omega arith; y = omega arith; z = omega arith } in
        absurd (let in_space_here = in_space_is r c is_in_space in let impossible = sym in_space_here ∙ o in cc)

-- a region along z that was made full or void
pub set_by : (n m : Matrix) (x y a b : ℕ) (full : Bool) → n.resolution ≡ m.resolution → x < m.resolution
    → y < m.resolution → b < m.resolution → a ≤ b → ((c : Coord) → IsInSpace m.resolution c
    → is_full n c ≡ cond (is_within (between (point (coord x y a)) (point (coord x y b))) (point c)) full (is_full m c))
    → AreSet n m (in_part x y a (b + 1)) full
set_by n m x y a b full e hx hy hb hab h = λ c. by c (in_space m.resolution (point c)) refl
  where
    by : (c : Coord) (t : Bool) → in_space m.resolution (point c) ≡ t
        → is_full n c ≡ cond (in_part x y a (b + 1) c) full (is_full m c)
    by c true i = h c (space_by_test m.resolution c i) ∙ ap (λ t. cond t full (is_full m c)) (part_is x y a b c hab)
    by c false o = void_out m.resolution n c e o ∙ sym (ap (λ t. cond t full (is_full m c)) (out_of_part m.resolution x y a b c hx hy hb o) ∙ void_out m.resolution m c refl o)

pub set_region : (m : Matrix) (x y a b : ℕ) (full : Bool) → x < m.resolution → y < m.resolution → b < m.resolution
    → a ≤ b
    → AreSet (with_region m (between (point (coord x y a)) (point (coord x y b))) full) m (in_part x y a (b + 1)) full
set_region m x y a b full hx hy hb hab = set_by (with_region m (between (point (coord x y a)) (point (coord x y b))) full) m x y a b full refl hx hy hb hab (λ c i. full_where m.resolution _ c i)

above_part : (s u v : Bool) (w y : ℕ) → y < w → (s && w == y && u && v) ≡ false
above_part true u v w y h = let w_is_not_y : (w == y) ≡ false = grind (arith, nat_tests) in rw w_is_not_y refl
above_part false u v w y h = refl

-- void voxels above the row are void afterwards
pub still_free : (n m : Matrix) (x y first end : ℕ) (full : Bool) (height : ℕ) → AreSet n m (in_part x y first end) full
    → y < height → IsVoidFrom m height → IsVoidFrom n height
still_free n m x y first end full height s h v = λ c l. s c ∙ (ap (λ t. cond t full (is_full m c)) (above_part (c.x == x) (nat_le first c.z) (nat_lt c.z end) c.y y (omega arith)) ∙ v c l)

-- ---- the positions below

-- the point below
pub below : (c : Coord) → 1 ≤ c.y
    → plus (point c) (record { dx = pos 0; dy = negsuc 0; dz = pos 0 }) ≡ point (coord c.x (c.y - 1) c.z)
below c h = λ i. record { x = same c.x i; y = less c.y h i; z = same c.z i }
  where
    same : (n : ℕ) → pos n +ℤ pos 0 ≡ pos n
    same n = omega (arith, ints)

    less : (n : ℕ) → 1 ≤ n → pos n +ℤ negsuc 0 ≡ pos (n - 1)
    less n k = omega (arith, ints)

-- the point at the other end
pub across : (x y a b : ℕ)
    → plus (point (coord x y a)) (record { dx = pos 0; dy = pos 0; dz = pos b -ℤ pos a }) ≡ point (coord x y b)
across x y a b = λ i. record { x = same x i; y = same y i; z = there i }
  where
    same : (n : ℕ) → pos n +ℤ pos 0 ≡ pos n
    same n = omega (arith, ints)

    there : pos a +ℤ (pos b -ℤ pos a) ≡ pos b
    there = omega (arith, ints)
