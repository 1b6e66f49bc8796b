-- The square tiles of a layer, the last of a line overlapping the one before it.
use Rattle.std.specs.Prelude.{◌≡◌, ℕ, ◌+◌, ◌-◌, ◌*◌, ◌<◌, ◌≤◌, Bool, cond, min, false}
use Rattle.vox_geom.specs.declared.coordinate.Coord.{Coord}
use Rattle.vox_geom.specs.Point.{point, coord}
use Rattle.vox_geom.specs.Region.{Span, between}
use Rattle.nano_spec.specs.Matrix.{Matrix, is_full}
use Rattle.void_planner.specs.Bounds.{tiles_of}

-- how far the corners of a tile are from each other along x and along z
abbrev pub far_of : ℕ → ℕ
far_of r = min 30 (r - 1)

-- the begin of the k-th tile along x or z
abbrev pub place_of : ℕ → ℕ → ℕ
place_of r k = min (31 * k) (r - 1 - far_of r)

-- the k-th of n, counted forth or back
abbrev pub turned : ℕ → Bool → ℕ → ℕ
turned n back k = cond back (n - 1 - k) k

-- the begin of the first tile along x or z, forward or back
abbrev pub edge : ℕ → Bool → ℕ
edge r back = place_of r (turned (tiles_of r) back 0)

-- the tile with a least corner
abbrev pub tile : ℕ → Coord → Span
tile far c = between (point c) (point (coord (c.x + far) c.y (c.z + far)))

-- the tile with the least corner x, y, z is void
abbrev pub IsVoidTile : Matrix → ℕ → ℕ → ℕ → ℕ → Type 0
IsVoidTile m far x y z = (c : Coord) → x ≤ c.x → c.x ≤ x + far → c.y ≡ y → z ≤ c.z → c.z ≤ z + far → is_full m c ≡ false

-- of the voxels above the tiles of x, y those before z are void
abbrev pub IsVoidStrip : Matrix → ℕ → ℕ → ℕ → ℕ → Type 0
IsVoidStrip m far x y z = (c : Coord) → x ≤ c.x → c.x ≤ x + far → c.y ≡ y → c.z < z → is_full m c ≡ false

-- the voxels of the layer of y that are before x are void
abbrev pub IsVoidBefore : Matrix → ℕ → ℕ → Type 0
IsVoidBefore m x y = (c : Coord) → c.x < x → c.y ≡ y → is_full m c ≡ false
