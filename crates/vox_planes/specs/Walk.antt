-- The rest of a walk over the coordinates of a matrix or of a region, in their order.
use Rattle.std.specs.Prelude.{ℕ, ◌+◌, ◌-◌, ◌*◌, Bool, ◌&&◌, List, map}
use Rattle.vox_geom.specs.declared.coordinate.Coord.{Coord}
use Rattle.vox_geom.specs.Point.{point}
use Rattle.vox_geom.specs.Region.{Corners, is_within, span}
use Rattle.vox_geom.specs.Space.{coordinate_at, numbers_from}

-- the coordinate of a row at a component z
abbrev pub at : Coord → ℕ → Coord
at c z = record { x = c.x; y = c.y; z = z }

-- the coordinates of a row, in the direction of z, from one on to the last component
unfoldable pub row : Coord → ℕ → List Coord
row c last = map (at c) (numbers_from c.z (last + 1 - c.z))

-- the coordinates of the matrix from a place on
unfoldable pub coordinates_from : ℕ → ℕ → List Coord
coordinates_from r p = map (coordinate_at r) (numbers_from p (r * r * r - p))

-- the coordinate is of the region and passes the test
abbrev pub passes_in : Corners → (Coord → Bool) → Coord → Bool
passes_in k test c = test c && is_within (span k) (point c)

-- the first coordinate of the region's row with this x and y
abbrev pub row_start : Corners → ℕ → ℕ → Coord
row_start k x y = record { x = x; y = y; z = k.low.z }

-- how many coordinates a row of the region has
abbrev pub row_size : Corners → ℕ
row_size k = k.high.z + 1 - k.low.z

-- how many coordinates of the region have one x
abbrev pub wall_size : Corners → ℕ
wall_size k = (k.high.y + 1 - k.low.y) * row_size k

-- how many coordinates of the region have one y
abbrev pub layer_size : Corners → ℕ
layer_size k = (k.high.x + 1 - k.low.x) * row_size k
