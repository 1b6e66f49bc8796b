-- Segments: voxels that follow one another along z in a row of a brick, and become void together.
use Rattle.std.specs.Prelude.{◌≡◌, ◌≢◌, ℕ, ◌+◌, ◌*◌, ◌/◌, ◌%◌, ◌<◌, ◌≤◌, ◌⊎◌, List, Some, length, slice_index, slice_index_or}
use Rattle.std.specs.List.{AllPairs, Contains}
use Rattle.vox_geom.specs.declared.coordinate.Coord.{Coord}
use Rattle.vox_geom.specs.Space.{IsInSpace}
use Rattle.support_forest.specs.Directions.{Toward}
use Rattle.support_forest.specs.Grid.{Grid, slot_of, word_at}
use Rattle.support_forest.specs.Losing.{CanRemove}
use Rattle.support_forest.specs.VoidingOne.{HangsNot}
use Rattle.support_forest.specs.Words.{AreExact, IsWritten}

-- the voxel that lies n further along z
abbrev pub further : Coord → ℕ → Coord
further c k = record { x = c.x; y = c.y; z = c.z + k }

-- n voxels from this one on lie in space and in one row of a brick
pub record LieInRow (g : Grid) (c : Coord) (n : ℕ) : Type 0 where
  pub within : IsInSpace g.resolution c
  pub last : c.z + n ≤ g.resolution
  pub row : c.z % 8 + n ≤ 8

-- n voxels of the list from an index on are those from this one on, in one row of a brick
pub record IsSegment (gone : List Coord) (start n : ℕ) (c : Coord) : Type 0 where
  pub some : 0 < n
  pub within : start + n ≤ length gone
  pub row : c.z % 8 + n ≤ 8
  pub each : (k : ℕ) (d : Coord) → k < n → slice_index_or gone (start + k) d ≡ further c k

-- n voxels from this one on, at least one, are a row of the brick with the slot, and no voxel beyond space is full
pub record IsBrickRow (g : Grid) (slot : ℕ) (c : Coord) (n : ℕ) : Type 0 where
  pub some : 0 < n
  pub own : slot_of g c ≡ Some slot
  pub row : LieInRow g c n
  pub space : (q : Coord) → 0 < word_at g q → IsInSpace g.resolution q

-- none of n words of the list from an index on has its parent in that direction
abbrev pub WordsHangNot : List ℕ → ℕ → ℕ → ℕ → Type 0
WordsHangNot words from n toward = (k : ℕ) → k < n → HangsNot (slice_index words (from + k)) toward

-- none of the words of the row has its parent in that direction
abbrev pub RowHangsNot : (Coord → ℕ) → Coord → ℕ → ℕ → Type 0
RowHangsNot w c n toward = (k : ℕ) → k < n → HangsNot (w (further c k)) toward

-- no neighbor in the direction has its parent in a voxel of the row
abbrev pub SideHangsNot : (Coord → ℕ) → Coord → ℕ → ℕ → ℕ → Type 0
SideHangsNot w c n d toward = (k : ℕ) (p : Coord) → k < n → Toward d (further c k) p → HangsNot (w p) toward

-- the first voxel of the whole row of a brick in which the voxel lies
abbrev pub whole_row_start : Coord → Coord
whole_row_start c = record { x = c.x; y = c.y; z = c.z / 8 * 8 }

-- no neighbor to a side has its parent in a voxel of the row, and no voxel of the row in the next one
pub record SidesAreFree (w : Coord → ℕ) (c : Coord) (n : ℕ) : Type 0 where
  pub left : SideHangsNot w c n 1 2
  pub right : SideHangsNot w c n 2 1
  pub under : SideHangsNot w c n 3 4
  pub over : SideHangsNot w c n 4 3
  pub own : RowHangsNot w c n 6

-- neither the voxel before the row has its parent in the first of the row, nor that behind it in the last
pub record EndsAreFree (w : Coord → ℕ) (c : Coord) (n : ℕ) : Type 0 where
  pub near : SideHangsNot w c 1 5 6
  pub far : (p : Coord) → p.x ≡ c.x → p.y ≡ c.y → p.z ≡ c.z + n → HangsNot (w p) 5

-- no neighbor has its parent in a voxel of the row, except the next voxel of the row
pub record RowIsFree (w : Coord → ℕ) (c : Coord) (n : ℕ) : Type 0 where
  pub left : SideHangsNot w c n 1 2
  pub right : SideHangsNot w c n 2 1
  pub under : SideHangsNot w c n 3 4
  pub over : SideHangsNot w c n 4 3
  pub near : SideHangsNot w c 1 5 6
  pub own : RowHangsNot w c n 6
  pub far : (p : Coord) → p.x ≡ c.x → p.y ≡ c.y → p.z ≡ c.z + n → HangsNot (w p) 5

-- the row of the brick may become void: the words are exact, and the row has no children
pub record CanClear (g : Grid) (slot : ℕ) (c : Coord) (n : ℕ) : Type 0 where
  pub row : IsBrickRow g slot c n
  pub exact : AreExact g.resolution (word_at g)
  pub free : RowIsFree (word_at g) c n

-- one voxel after another of a whole row got the word: the stores in between
pub record AreWritten (old new : Grid) (c : Coord) (word : ℕ) : Type 0 where
  pub after : ℕ → Grid
  pub first : after 0 ≡ old
  pub last : after 8 ≡ new
  pub resolution : (k : ℕ) → (after k).resolution ≡ old.resolution
  pub table : (k : ℕ) → (after k).table ≡ old.table
  pub each : (k : ℕ) → k < 8 → IsWritten (word_at (after k)) (word_at (after (k + 1))) (further c k) word

-- the voxels of the row from one on became void, and the words are exact
pub record AreCleared (old new : Grid) (c : Coord) (k n before after : ℕ) : Type 0 where
  pub resolution : new.resolution ≡ old.resolution
  pub table : new.table ≡ old.table
  pub exact : AreExact new.resolution (word_at new)
  pub gone : (j : ℕ) → k ≤ j → j < n → word_at new (further c j) ≡ 0
  pub kept : (d : Coord) → ((j : ℕ) → k ≤ j → j < n → d ≡ further c j → ⊥) → word_at new d ≡ word_at old d
  pub within : k ≤ n
  pub cost : after + 2 * k ≤ before + 2 * n

-- the voxel is one of those from an index on
abbrev pub IsPast : List Coord → ℕ → Coord → Type 0
IsPast gone i c = (k : ℕ) × (i ≤ k) × (k < length gone) × (slice_index_or gone k c ≡ c)

-- the voxels from an index on are void or deferred
pub record IsVoidingEach (old now : Grid) (gone : List Coord) (i : ℕ) (rest : List Coord) (before steps : ℕ)
    : Type 0 where
  pub resolution : now.resolution ≡ old.resolution
  pub exact : AreExact now.resolution (word_at now)
  pub each : (c : Coord) → (word_at now c ≡ word_at old c) ⊎ ((word_at now c ≡ 0) × IsPast gone i c)
  pub done : (c : Coord) → IsPast gone i c → (word_at now c ≡ 0) ⊎ Contains rest c
  pub listed : (c : Coord) → Contains rest c → IsPast gone i c × (word_at now c ≡ word_at old c)
  pub differ : AllPairs ◌≢◌ rest
  pub within : i ≤ length gone
  pub few : length rest + i ≤ length gone
  pub cost : steps + 2 * length rest + 8 * i ≤ before + 8 * length gone

-- whatever was handled before, these voxels became void too or were deferred
abbrev pub VoidsMore : Grid → Grid → List Coord → ℕ → ℕ → List Coord → List Coord → ℕ → ℕ → Type 0
VoidsMore now new gone i j rest more steps after =
    (old : Grid) (before : ℕ) → CanRemove old gone → IsVoidingEach old now gone i rest before steps
    → IsVoidingEach old new gone j more before after
