-- Matrices without overhangs: each full voxel is on the floor or above a full one.
use Rattle.std.specs.Prelude.{◌≡◌, ◌⊎◌, ℕ, zero, suc, ◌-◌, ◌*◌, Bool, IsTrue, not, ◌&&◌, ◌||◌, List, nat_lt}
use Rattle.vox_geom.specs.declared.coordinate.Coord.{Coord}
use Rattle.vox_geom.specs.Point.{below}
use Rattle.nano_spec.specs.Matrix.{Matrix, is_full}
use Rattle.vox_planes.specs.Layers.{is_set}

-- each full voxel is on the floor or above a full one
abbrev pub HasNoOverhangs : Matrix → Type 0
HasNoOverhangs m = (c : Coord) → IsTrue (is_full m c) → (c.y ≡ 0) ⊎ IsTrue (is_full m (below c))

-- whether the voxels of a column from the floor up to a height are all full
abbrev pub is_full_up_to : Matrix → Coord → ℕ → Bool
is_full_up_to m c zero = is_full m (record { x = c.x; y = 0; z = c.z })
is_full_up_to m c (suc y) = is_full_up_to m c y && is_full m (record { x = c.x; y = suc y; z = c.z })

-- whether a voxel and all below it down to the floor are full
abbrev pub is_stacked : Matrix → Coord → Bool
is_stacked m c = is_full_up_to m c c.y

-- whether a bit is in the lowest layer, or the bit below it was 1 in the full words and is 0 in those that are left
abbrev pub goes : List ℕ → List ℕ → ℕ → ℕ → Bool
goes full left layer j = nat_lt j (layer * 64) || (is_set full (j - layer * 64) && not (is_set left (j - layer * 64)))
