-- The supported voxels of a layer. A part is a maximal set of full voxels of one layer that are connected within it; a
-- part above the floor is supported if one of its voxels has a full voxel right below it.
use Rattle.std.specs.Prelude.{Bool, false, ◌&&◌, ◌||◌, ◌==◌, List, [], ◌∷◌, Option, IsTrue}
use Rattle.vox_geom.specs.declared.coordinate.Coord.{Coord}
use Rattle.vox_geom.specs.Point.{are_adjacent, below}
use Rattle.nano_spec.specs.First.{FirstFailing}
use Rattle.nano_spec.specs.Grounded.{begins_at}
use Rattle.nano_spec.specs.Matrix.{Matrix, is_full, all_of}

-- whether the coordinate is on the floor, or the voxel right below it is full
abbrev pub rests : Matrix → Coord → Bool
rests m c = c.y == 0 || is_full m (below c)

-- whether the list is a path of full coordinates of one layer: each is adjacent to the next, and the last rests on the
-- floor or on a full voxel
abbrev pub is_layer_path : Matrix → List Coord → Bool
is_layer_path m [] = false
is_layer_path m (a ∷ []) = is_full m a && rests m a
is_layer_path m (a ∷ b ∷ more) = is_full m a && are_adjacent a b && a.y == b.y && is_layer_path m (b ∷ more)

-- whether the list is such a path from the coordinate
abbrev pub is_layer_path_from : Matrix → Coord → List Coord → Bool
is_layer_path_from m c path = begins_at c path && is_layer_path m path

-- the part of a full voxel is supported: a path leads within it from the voxel to one that rests on the floor or on a
-- full voxel
abbrev pub IsSupported : Matrix → Coord → Type 0
IsSupported m c = (path : List Coord) × IsTrue (is_layer_path_from m c path)

-- at is the least voxel of all unsupported parts, or `None` if each part is supported
abbrev pub FirstUnsupported : Matrix → Option Coord → Type 0
FirstUnsupported m at = FirstFailing (λ c. IsTrue (is_full m c) → IsSupported m c) (all_of m) at
