-- The bits of the voxels of a matrix in words: one layer of y after another, each in whole words.
use Rattle.std.specs.Prelude.{◌≡◌, ℕ, ◌+◌, ◌*◌, ◌/◌, ◌%◌, ◌<◌, ◌≤◌, Bool, true, IsFalse, List, length, slice_index}
use Rattle.vox_geom.specs.declared.coordinate.Coord.{Coord}
use Rattle.vox_geom.specs.declared.TheConstants.{MOST_R}
use Rattle.nano_spec.specs.Matrix.{Matrix, matrix_where}
use Rattle.nano_spec.specs.Model.{bit}

-- the number of words of 64 bits in a layer
abbrev pub layer_words : ℕ → ℕ
layer_words r = (r * r + 63) / 64

-- the index of a coordinate's bit through all words: rows of fixed x lie one after another in their layer
abbrev pub bit_index : ℕ → Coord → ℕ
bit_index r c = c.y * layer_words r * 64 + (c.x * r + c.z)

-- whether the bit of this index is 1
unfoldable pub is_set : List ℕ → ℕ → Bool
is_set words i = bit (slice_index words (i / 64)) (i % 64)

-- the matrix of the words
abbrev pub layered : ℕ → List ℕ → Matrix
layered r words = matrix_where r (λ c. is_set words (bit_index r c))

-- the words are those of a matrix, and the bits of a layer that belong to no voxel are 0
pub record IsLayered (r : ℕ) (words : List ℕ) : Type 0 where
  pub some : 1 ≤ r
  pub most : r ≤ MOST_R
  pub whole : length words ≡ r * layer_words r
  pub unused : (y i : ℕ) → y < r → r * r ≤ i → i < layer_words r * 64
      → IsFalse (is_set words (y * layer_words r * 64 + i))

-- no bit is 1 from the word of this index on
pub record AreZeroFrom (words : List ℕ) (end : ℕ) : Type 0 where
  pub few : end ≤ length words
  pub below : (i : ℕ) → i < length words * 64 → is_set words i ≡ true → i < end * 64
