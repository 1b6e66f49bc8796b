-- Whether a voxel is grounded (task description, section on the matrix; docs/FORMATS.md, "Geometry").
use Rattle.std.specs.Prelude.{Bool, false, ◌&&◌, ◌==◌, List, [], ◌∷◌, Option, IsTrue}
use Rattle.vox_geom.specs.declared.coordinate.Coord.{Coord}
use Rattle.vox_geom.specs.Point.{point, are_adjacent, same_point}
use Rattle.nano_spec.specs.First.{FirstFailing}
use Rattle.nano_spec.specs.Matrix.{Matrix, is_full, all_of}

-- whether the list is a path of full coordinates to the floor: each is adjacent to the next, and the last has y = 0
abbrev pub is_path : Matrix → List Coord → Bool
is_path m [] = false
is_path m (a ∷ []) = is_full m a && a.y == 0
is_path m (a ∷ b ∷ more) = is_full m a && are_adjacent a b && is_path m (b ∷ more)

-- whether the list begins with the coordinate
abbrev pub begins_at : Coord → List Coord → Bool
begins_at c [] = false
begins_at c (a ∷ more) = same_point (point c) (point a)

-- whether the list is such a path from the coordinate
abbrev pub is_path_from : Matrix → Coord → List Coord → Bool
is_path_from m c path = begins_at c path && is_path m path

-- a coordinate is grounded if a path of full coordinates leads from it to the floor
abbrev pub Grounded : Matrix → Coord → Type 0
Grounded m c = (path : List Coord) × IsTrue (is_path_from m c path)

-- `at` is the least full coordinate that is not grounded, or `None` if all full coordinates are grounded
abbrev pub FirstUngrounded : Matrix → Option Coord → Type 0
FirstUngrounded m at = FirstFailing (λ c. IsTrue (is_full m c) → Grounded m c) (all_of m) at
