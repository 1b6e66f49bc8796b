-- Matrices with a voided region, and coordinates outside space.
use Rattle.std.proofs.Common.{◌≡◌, ℕ, ◌+◌, ◌≤◌, refl, sym, ◌∙◌, ap, arith, Bool, true, false, cond, ◌&&◌, not, Option, Some, None}
use Rattle.std.specs.Prelude.{pos, find, is_some}
use Rattle.vox_geom.specs.declared.coordinate.Coord.{Coord}
use Rattle.vox_geom.specs.Point.{point, coord}
use Rattle.vox_geom.specs.Region.{Span, is_between, is_within}
use Rattle.vox_geom.proofs.Truths.{three_true}
use Rattle.vox_geom.proofs.Points.{between_ends}
use Rattle.nano_spec.specs.Matrix.{Matrix, all_of, is_full}
use Rattle.step_order.specs.Acting.{with_region}
use Rattle.step_order.proofs.Lists.{find_none}
use Rattle.step_order.proofs.Voxels.{full_where, in_coordinates}
use Rattle.void_planner.specs.Tiles.{IsVoidTile, tile}
use Rattle.plan_tape.proofs.LegalModels.{void_by_space}

-- ---- a region that was voided

module _ (m : Matrix) (s : Span) where
  pub region_void : (c : Coord) → is_within s (point c) ≡ true → is_full (with_region m s false) c ≡ false
  region_void c w = void_by_space (with_region m s false) c (λ i. full_where m.resolution (λ d. cond (is_within s (point d)) false (is_full m d)) c i ∙ ap (λ t. cond t false (is_full m c)) w)

  either_void : (t b : Bool) → b ≡ false → cond t false b ≡ false
  either_void true b e = refl
  either_void false b e = e

  pub region_fewer : (c : Coord) → is_full m c ≡ false → is_full (with_region m s false) c ≡ false
  region_fewer c v = void_by_space (with_region m s false) c (λ i. full_where m.resolution (λ d. cond (is_within s (point d)) false (is_full m d)) c i ∙ either_void (is_within s (point c)) (is_full m c) v)

-- ---- a tile

-- the coordinates of a tile
pub in_tile : (far : ℕ) (t c : Coord) → t.x ≤ c.x → c.x ≤ t.x + far → c.y ≡ t.y → t.z ≤ c.z → c.z ≤ t.z + far
    → is_within (tile far t) (point c) ≡ true
in_tile far t c a b e f g = three_true (is_between (pos t.x) (pos (t.x + far)) (pos c.x)) (is_between (pos t.y) (pos t.y) (pos c.y)) (is_between (pos t.z) (pos (t.z + far)) (pos c.z)) (between_ends t.x (t.x + far) c.x a b) (between_ends t.y t.y c.y (omega arith) (omega arith)) (between_ends t.z (t.z + far) c.z f g)

-- a tile that was voided is void
pub tile_void : (m : Matrix) (far x y z : ℕ) → IsVoidTile (with_region m (tile far (coord x y z)) false) far x y z
tile_void m far x y z = λ c a b e f g. region_void m (tile far (coord x y z)) c (in_tile far (coord x y z) c a b e f g)

-- ---- no full voxel found

none_is : {A : Type 0} (o : Option A) (t : Bool) → is_some o ≡ not t → t ≡ true → o ≡ None
none_is None t e f = refl
none_is (Some a) t e f = let impossible = e ∙ ap not f in cc

not_full : (a b : Bool) → (a && b) ≡ false → b ≡ true → a ≡ false
not_full true b e f = let impossible = sym e ∙ f in cc
not_full false b e f = refl

-- a region in which no full coordinate is found is void
pub none_found : (m : Matrix) (s : Span) (o : Option Coord) (t : Bool) → is_some o ≡ not t
    → o ≡ find (λ c. is_full m c && is_within s (point c)) (all_of m) → t ≡ true → (c : Coord)
    → is_within s (point c) ≡ true → is_full m c ≡ false
none_found m s o t e f g c w = void_by_space m c (λ i. not_full (is_full m c) (is_within s (point c)) (find_none (λ d. is_full m d && is_within s (point d)) c (all_of m) (sym f ∙ none_is o t e g) (in_coordinates m.resolution c i)) w)
