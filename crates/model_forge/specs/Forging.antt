-- The forged part of a model.
use Rattle.std.specs.Prelude.{◌≡◌, ℕ, ◌+◌, ◌*◌, ◌%◌, Bool, ◌&&◌, ◌||◌, ◌==◌, ◌<◌, nat_lt, List, slice_index}
use Rattle.vox_geom.specs.declared.coordinate.Coord.{Coord}
use Rattle.vox_geom.specs.Space.{coordinate_at}
use Rattle.nano_spec.specs.Forge.{column_height, is_inner}
use Rattle.nano_spec.specs.Matrix.{Matrix}
use Rattle.vox_planes.specs.Places.{voxel_at}
use Rattle.model_forge.specs.declared.tower.Tower.{Tower}

-- the heights of the columns of one x, from the column at z = 1 on
pub record AreHeights (number r x : ℕ) (heights : List ℕ) : Type 0 where
  pub at : (k : ℕ) → k + 2 < r → slice_index heights k ≡ column_height number r x (k + 1)

-- whether the voxel at a coordinate is full in the forged model with this tower
abbrev pub is_forged : ℕ → ℕ → Tower → Coord → Bool
is_forged number r tower c =
    is_inner r c
    && (nat_lt c.y (column_height number r c.x c.z) || (c.y + 1 == tower.height && (c.x % 2 == 0 || c.z == tower.z)))

-- the place of the first voxel of the row with this x and y
abbrev pub row_place : ℕ → ℕ → ℕ → ℕ
row_place r x y = (x * r + y) * r

-- the voxels before a place are those of the forged model, and all others are void
pub record IsForged (number : ℕ) (tower : Tower) (m : Matrix) (end : ℕ) : Type 0 where
  pub voxels : (p : ℕ)
      → voxel_at m p ≡ (nat_lt p end && is_forged number m.resolution tower (coordinate_at m.resolution p))
