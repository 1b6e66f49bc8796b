-- The level of a voxel: how far it is from the floor along full voxels (this project's own: docs/FORMATS.md, "Levels
-- and work").
use Rattle.std.specs.Prelude.{◌≡◌, ℕ, ◌+◌, ◌<◌, List, length, Option, Some, None, IsTrue}
use Rattle.vox_geom.specs.declared.coordinate.Coord.{Coord}
use Rattle.nano_spec.specs.Grounded.{Grounded, is_path_from}
use Rattle.nano_spec.specs.Matrix.{Matrix}

-- the level is the length, less one, of a shortest path of full coordinates to the floor, or `None` if there is no path
abbrev pub Level : Matrix → Coord → Option ℕ → Type 0
Level m c None = Grounded m c → ⊥
Level m c (Some n) = ((path : List Coord) × IsTrue (is_path_from m c path) × (length path ≡ n + 1))
    × ((path : List Coord) → IsTrue (is_path_from m c path) → n < length path)
