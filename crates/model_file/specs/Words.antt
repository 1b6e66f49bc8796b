-- The bytes of the first form, read word by word and row by row.
use Rattle.std.specs.Prelude.{◌≡◌, ℕ, ◌+◌, ◌*◌, ◌/◌, ◌%◌, ◌<◌, ◌≤◌, false, List, slice_index}
use Rattle.nano_spec.specs.Matrix.{Matrix}
use Rattle.nano_spec.specs.Model.{bit, voxel_bit}
use Rattle.vox_planes.specs.Places.{voxel_at}
use Rattle.vox_planes.specs.Voxel.{IsWhole}

-- the bits of the word are those of eight bytes from one on
abbrev pub IsWordOf : List ℕ → ℕ → ℕ → Type 0
IsWordOf bytes at word = (i : ℕ) → i < 64 → bit word i ≡ bit (slice_index bytes (at + i / 8)) (i % 8)

-- the place of the first voxel of the row with this x and y
abbrev pub place_of_row : ℕ → ℕ → ℕ → ℕ
place_of_row r x y = (x * r + y) * r

-- the voxels before a place are those of the bytes, and all others are void
pub record IsReadTo (m : Matrix) (bytes : List ℕ) (end : ℕ) : Type 0 where
  pub voxels : (p : ℕ) → p < end → voxel_at m p ≡ voxel_bit bytes p
  pub void : (p : ℕ) → end ≤ p → voxel_at m p ≡ false
  pub whole : IsWhole m
