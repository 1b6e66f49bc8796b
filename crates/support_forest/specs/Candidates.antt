-- Voxels that have a candidate height, and voxels that lost their parent.
use Rattle.std.specs.Prelude.{ℕ}
use Rattle.vox_geom.specs.declared.coordinate.Coord.{Coord}

-- a candidate height for a voxel, and the direction of the parent that it comes from
pub record Candidate : Type 0 where
  pub at : Coord
  pub height : ℕ
  pub toward : ℕ

-- a voxel whose parent is gone or lost its height, and the height that it has until it is handled
pub record Orphan : Type 0 where
  pub at : Coord
  pub height : ℕ
