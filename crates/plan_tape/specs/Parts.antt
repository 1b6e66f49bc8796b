-- Parts of a matrix: a voxel, rows and layers; and the number of full voxels.
use Rattle.std.specs.Prelude.{ℕ, Bool, ◌&&◌, ◌==◌, nat_le, nat_lt}
use Rattle.vox_geom.specs.declared.coordinate.Coord.{Coord}

-- the voxel of x, y and z
abbrev pub voxel : ℕ → ℕ → ℕ → Coord → Bool
voxel x y z c = c.x == x && c.y == y && c.z == z

-- the first z voxels of the row of x and y
abbrev pub in_row : ℕ → ℕ → ℕ → Coord → Bool
in_row x y z c = c.x == x && c.y == y && nat_lt c.z z

-- the row of x and y
abbrev pub is_in_line : ℕ → ℕ → Coord → Bool
is_in_line x y c = c.x == x && c.y == y

-- the first x rows of the layer of y
abbrev pub in_layer : ℕ → ℕ → Coord → Bool
in_layer x y c = nat_lt c.x x && c.y == y

-- the layer of y
abbrev pub layer : ℕ → Coord → Bool
layer y c = c.y == y

-- the layers from that of y on
abbrev pub from_layer : ℕ → Coord → Bool
from_layer y c = nat_le y c.y

-- the layers below that of y
abbrev pub below_layer : ℕ → Coord → Bool
below_layer y c = nat_lt c.y y
