-- A matrix: which of its voxels are full (task description, section on the matrix; docs/FORMATS.md, "Geometry").
use Rattle.std.specs.Prelude.{ℕ, Bool, false, ◌&&◌, ◌||◌, not, List, slice_index_or, map, count_by}
use Rattle.vox_geom.specs.declared.coordinate.Coord.{Coord}
use Rattle.vox_geom.specs.Point.{point}
use Rattle.vox_geom.specs.Space.{in_space, place, coordinates}

-- a resolution, and for each coordinate, in the order of the coordinates, whether its voxel is full
pub record Matrix : Type 0 where
  pub resolution : ℕ
  pub voxels : List Bool

-- whether a coordinate is one of the matrix, with a full voxel
abbrev pub is_full : Matrix → Coord → Bool
is_full m c = in_space m.resolution (point c) && slice_index_or m.voxels (place m.resolution c) false

-- whether one of two matrices is full at a coordinate and the other is not
abbrev pub differ_at : Matrix → Matrix → Coord → Bool
differ_at m n c = (is_full m c && not (is_full n c)) || (is_full n c && not (is_full m c))

-- the coordinates of the matrix, in their order
abbrev pub all_of : Matrix → List Coord
all_of m = coordinates m.resolution

-- the matrix of a resolution, whose voxels are full if they pass the test
abbrev pub matrix_where : ℕ → (Coord → Bool) → Matrix
matrix_where r test = record { resolution = r; voxels = map test (coordinates r) }

-- the matrix of a resolution in which every voxel is void
abbrev pub empty : ℕ → Matrix
empty r = matrix_where r (λ _. false)

-- how many voxels of the matrix are full
abbrev pub full_count : Matrix → ℕ
full_count m = count_by (is_full m) (all_of m)
