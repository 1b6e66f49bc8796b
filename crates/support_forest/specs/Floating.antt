-- The search for the first voxel that floats: row by row, in the order of voxels.
use Rattle.std.specs.Prelude.{◌≡◌, ◌≢◌, ℕ, ◌+◌, ◌<◌, List, Option, MatchOption, slice_index}
use Rattle.vox_geom.specs.declared.coordinate.Coord.{Coord}
use Rattle.support_forest.specs.Grid.{Grid, word_at}
use Rattle.support_forest.specs.Segments.{further}

-- none of the first n numbers is 1
abbrev pub NoneIsOne : (ℕ → ℕ) → ℕ → Type 0
NoneIsOne words n = (k : ℕ) → k < n → words k ≢ 1

-- the number at this index is the first of n that is 1
pub record IsFirstOne (words : ℕ → ℕ) (n k : ℕ) : Type 0 where
  pub below : k < n
  pub one : words k ≡ 1
  pub first : NoneIsOne words k

-- the index of the first of n numbers that is 1, if one is
abbrev pub FirstOne : (ℕ → ℕ) → ℕ → Option ℕ → Type 0
FirstOne words n o = MatchOption o (NoneIsOne words n) (IsFirstOne words n)

-- the words of a list from an index on
abbrev pub words_from : List ℕ → ℕ → ℕ → ℕ
words_from words from k = slice_index words (from + k)

-- the words of the voxels from this one on, along z
abbrev pub words_along : Grid → Coord → ℕ → ℕ
words_along g c k = word_at g (further c k)
