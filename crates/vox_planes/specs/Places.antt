-- Voxels by their places (docs/FORMATS.md, "Geometry").
use Rattle.std.specs.Prelude.{ℕ, ◌+◌, ◌-◌, Bool, false, ◌&&◌, ◌==◌, nat_le, nat_lt, slice_index_or}
use Rattle.vox_geom.specs.declared.coordinate.Coord.{Coord}
use Rattle.nano_spec.specs.Matrix.{Matrix}
use Rattle.nano_spec.specs.Model.{bit}

-- the voxel at a place
abbrev pub voxel_at : Matrix → ℕ → Bool
voxel_at m p = slice_index_or m.voxels p false

-- whether a place is one of n from one on
abbrev pub is_from : ℕ → ℕ → ℕ → Bool
is_from from count p = nat_le from p && nat_lt p (from + count)

-- whether a coordinate is one of n of a row from a first one on, and its bit is 1
abbrev pub is_marked : Coord → ℕ → ℕ → Coord → Bool
is_marked first count bits c =
    (c.x == first.x && c.y == first.y && is_from first.z count c.z) && bit bits (c.z - first.z)
