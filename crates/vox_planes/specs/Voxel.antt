-- Matrices with a voxel for each coordinate, and the change of one voxel (docs/FORMATS.md, "Geometry").
use Rattle.std.specs.Prelude.{◌≡◌, ◌≤◌, Bool, cond, not, length}
use Rattle.vox_geom.specs.declared.coordinate.Coord.{Coord}
use Rattle.vox_geom.specs.declared.TheConstants.{MOST_R}
use Rattle.vox_geom.specs.Point.{point, same_point}
use Rattle.nano_spec.specs.Matrix.{Matrix, is_full, matrix_where}
use Rattle.nano_spec.specs.Model.{volume}

-- the resolution is 1 to 400, and each coordinate has a voxel
pub record IsWhole (m : Matrix) : Type 0 where
  pub some : 1 ≤ m.resolution
  pub most : m.resolution ≤ MOST_R
  pub voxels : length m.voxels ≡ volume m.resolution

-- the matrix in which the voxel at a coordinate is full or void, and all others are as they were
abbrev pub with_voxel : Matrix → Coord → Bool → Matrix
with_voxel m c full = matrix_where m.resolution (λ d. cond (same_point (point d) (point c)) full (is_full m d))

-- whether the voxel at a coordinate is full, or void if `full` is false
abbrev pub is_state : Matrix → Bool → Coord → Bool
is_state m full c = cond full (is_full m c) (not (is_full m c))
