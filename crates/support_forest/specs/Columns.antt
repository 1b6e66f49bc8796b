-- The scan that makes the first forest of a matrix: supported columns are written, the other full voxels are deferred.
use Rattle.std.specs.Prelude.{◌≡◌, ◌≢◌, ℕ, zero, suc, ◌+◌, ◌*◌, ◌/◌, ◌%◌, ◌<◌, ◌≤◌, ◌==◌, Bool, true, cond, not, ◌&&◌, nat_lt, List, IsTrue}
use Rattle.std.specs.List.{AllPairs, Contains}
use Rattle.vox_geom.specs.declared.coordinate.Coord.{Coord}
use Rattle.vox_geom.specs.Space.{IsInSpace}
use Rattle.nano_spec.specs.Matrix.{Matrix, is_full}
use Rattle.nano_spec.specs.Model.{bit}
use Rattle.support_forest.specs.Grid.{Grid, word_at}
use Rattle.support_forest.specs.Segments.{further}

-- the word of a voxel whose level is its y: its parent is the floor or the voxel below
abbrev pub column_word : ℕ → ℕ
column_word y = cond (y == 0) 8 (8 * y + 11)

-- whether the lowest y voxels of a column are all full
abbrev pub is_column_full : Matrix → ℕ → ℕ → ℕ → Bool
is_column_full m x z zero = true
is_column_full m x z (suc y) = is_column_full m x z y && is_full m (record { x = x; y = y; z = z })

-- the index of a voxel in the order of the scan: by x, by blocks of 64 along z, by y, by z
abbrev pub scan_index : Coord → ℕ
scan_index c = 262144 * c.x + 32768 * (c.z / 64) + 64 * c.y + c.z % 64

-- whether the scan up to p has written the voxel: it is full, and all voxels under it are
abbrev pub is_raised : Matrix → ℕ → Coord → Bool
is_raised m p c = nat_lt (scan_index c) p && is_column_full m c.x c.z (c.y + 1)

-- whether the scan up to p has deferred the voxel: it is full, and a voxel under it is void
abbrev pub is_deferred : Matrix → ℕ → Coord → Bool
is_deferred m p c = nat_lt (scan_index c) p && (is_full m c && not (is_column_full m c.x c.z (c.y + 1)))

-- the scan is at p: supported voxels have their words, and `rest` lists the deferred ones
pub record IsScanned (m : Matrix) (g : Grid) (p : ℕ) (rest : List Coord) : Type 0 where
  pub resolution : g.resolution ≡ m.resolution
  pub words : (c : Coord) → word_at g c ≡ cond (is_raised m p c) (column_word c.y) 0
  pub listed : (c : Coord) → Contains rest c → IsTrue (is_deferred m p c)
  pub all : (c : Coord) → IsTrue (is_deferred m p c) → Contains rest c
  pub differ : AllPairs ◌≢◌ rest

-- the lowest n bits of a number are 1 for the full voxels of a row
abbrev pub AreRowBits : Matrix → Coord → ℕ → ℕ → Type 0
AreRowBits m c n bits = (k : ℕ) → k < n → bit bits k ≡ is_full m (further c k)

-- the lowest n bits of a number are 1 for the columns whose lowest y voxels are all full
abbrev pub AreSupportedBits : Matrix → ℕ → ℕ → ℕ → ℕ → ℕ → Type 0
AreSupportedBits m x z n y bits = (k : ℕ) → k < n → bit bits k ≡ is_column_full m x (z + k) y

-- the facts about the n voxels of the row that the scan is at
pub record CanScan (m : Matrix) (g : Grid) (c : Coord) (n bits supported : ℕ) (rest : List Coord) : Type 0 where
  pub within : IsInSpace m.resolution c
  pub row : c.z + n ≤ m.resolution
  pub block : c.z % 64 + n ≤ 64
  pub few : m.resolution ≤ 400
  pub full : AreRowBits m c n bits
  pub columns : AreSupportedBits m c.x c.z n (c.y + 1) supported
  pub raised : IsScanned m g (scan_index c) rest
