-- A voxel that becomes full while the levels of its neighbors stay as they are.
use Rattle.std.specs.Prelude.{◌≡◌, true, ℕ, ◌+◌, ◌*◌, ◌/◌, ◌%◌, ◌<◌, ◌≤◌, ◌⊎◌, Bool, List, MatchBool, Some, length}
use Rattle.std.specs.List.{Contains}
use Rattle.vox_geom.specs.declared.coordinate.Coord.{Coord}
use Rattle.vox_geom.specs.Space.{IsInSpace}
use Rattle.support_forest.specs.declared.beside.Beside.{Beside}
use Rattle.support_forest.specs.declared.fill_one.Around.{Around}
use Rattle.support_forest.specs.Directions.{Toward, AreBeside}
use Rattle.support_forest.specs.Grid.{Grid, LiesAtOffset, brick, brick_number, offset_in_slot, slot_of, word_at}
use Rattle.support_forest.specs.Waiting.{CanAdd}
use Rattle.support_forest.specs.Words.{height, AreExact, IsSound}

-- the neighborhood of a void voxel, in the directions below d
pub record IsAround (w : Coord → ℕ) (c : Coord) (a : Around) (d : ℕ) : Type 0 where
  pub floor : c.y ≡ 0 → a.height ≡ 1
  pub sound : (a.height ≡ 0) ⊎ IsSound w (record { at = c; height = a.height; toward = a.toward })
  pub least : (k : ℕ) (q : Coord) → k < d → Toward k c q → 8 ≤ w q → (0 < a.height) × (a.height ≤ height w q + 1)
  pub highest : (k : ℕ) (q : Coord) → k < d → Toward k c q → 8 ≤ w q → height w q ≤ a.highest
  pub loose : (k : ℕ) (q : Coord) → k < d → Toward k c q → 0 < w q → w q < 8 → a.is_loose ≡ true

-- the least candidate of a voxel, 0 if there is none
pub record IsOffered (w : Coord → ℕ) (c : Coord) (a : Around) : Type 0 where
  pub floor : c.y ≡ 0 → a.height ≡ 1
  pub sound : (a.height ≡ 0) ⊎ IsSound w (record { at = c; height = a.height; toward = a.toward })
  pub least : (q : Coord) → 8 ≤ w q → AreBeside c q → (0 < a.height) × (a.height ≤ height w q + 1)

-- the word is that of the neighbor in the direction, 0 if there is none
pub record IsWordToward (w : Coord → ℕ) (c : Coord) (d word : ℕ) : Type 0 where
  pub each : (q : Coord) → Toward d c q → w q ≡ word
  pub some : 0 < word → (q : Coord) × Toward d c q

-- the words of the neighbors in later directions stay
abbrev pub StayAfter : (Coord → ℕ) → (Coord → ℕ) → Coord → ℕ → Type 0
StayAfter w v c d = (k word : ℕ) → d < k → IsWordToward w c k word → IsWordToward v c k word

-- the neighbor in the direction lies in the same brick, and its word is at that offset of the slot
pub record IsOffsetToward (c : Coord) (d at : ℕ) : Type 0 where
  pub there : Coord
  pub toward : Toward d c there
  pub same_brick : brick there ≡ brick c
  pub at_offset : offset_in_slot there ≡ at

-- the same if the offsets of both words are counted from another origin
pub record IsMovedOffsetToward (c : Coord) (d own at offset : ℕ) : Type 0 where
  pub in_slot : ℕ
  pub toward : IsOffsetToward c d in_slot
  pub moved : offset + own ≡ at + in_slot

-- the voxel is the last of its brick in the direction
pub record EndsBrick (c : Coord) (d : ℕ) : Type 0 where
  pub left : d ≡ 1 → c.x % 8 ≡ 0
  pub right : d ≡ 2 → c.x % 8 ≡ 7
  pub under : d ≡ 3 → c.y % 8 ≡ 0
  pub over : d ≡ 4 → c.y % 8 ≡ 7
  pub near : d ≡ 5 → c.z % 8 ≡ 0
  pub far : d ≡ 6 → c.z % 8 ≡ 7

-- the voxel is in space, and its word is at that offset in the slot of the brick of that number
pub record IsOwnIndex (r : ℕ) (c : Coord) (number at : ℕ) : Type 0 where
  pub within : IsInSpace r c
  pub in_brick : number ≡ brick_number r c
  pub at_offset : at ≡ offset_in_slot c

-- the neighbor in the direction is at that offset in the slot of the brick of that number
pub record IsIndexToward (r : ℕ) (c : Coord) (d number at : ℕ) : Type 0 where
  pub there : Coord
  pub toward : Toward d c there
  pub stands : LiesAtOffset r number at there

-- no neighbor in the direction is in space
abbrev pub NoneToward : ℕ → Coord → ℕ → Type 0
NoneToward r c d = (q : Coord) → Toward d c q → IsInSpace r q → ⊥

-- the voxel at that offset in the slot of the brick of that number lies beyond space
pub record IsOffsetBeyond (r number at : ℕ) : Type 0 where
  pub there : Coord
  pub out : IsInSpace r there → ⊥
  pub stands : LiesAtOffset r number at there

-- the neighbor in the direction is at the index; or none lies in space, and neither does the voxel at the index
abbrev pub IsIndexAcross : ℕ → Coord → ℕ → ℕ → Type 0
IsIndexAcross r c d next =
    IsIndexToward r c d (next / 512) (next % 512) ⊎ (NoneToward r c d × IsOffsetBeyond r (next / 512) (next % 512))

-- the words are those of the voxel's neighbors
pub record AreBesideWords (w : Coord → ℕ) (c : Coord) (b : Beside) : Type 0 where
  pub left : IsWordToward w c 1 b.left
  pub right : IsWordToward w c 2 b.right
  pub under : IsWordToward w c 3 b.under
  pub over : IsWordToward w c 4 b.over
  pub near : IsWordToward w c 5 b.near
  pub far : IsWordToward w c 6 b.far

-- the word is that of a void voxel, or of one with a height from the one given up to two above it
abbrev pub LeavesRoom : ℕ → ℕ → Type 0
LeavesRoom word height = (word ≡ 0) ⊎ ((8 * height ≤ word) × (word < 8 * height + 24))

-- the word is that of a void voxel, or of one whose height a voxel of the floor below it does not lessen
abbrev pub MayLieUnder : ℕ → Type 0
MayLieUnder word = (word ≡ 0) ⊎ ((8 ≤ word) × (word < 24))

-- a voxel whose parent is the voxel below changes no other level
pub record MayBeSupported (b : Beside) : Type 0 where
  pub under : 8 ≤ b.under
  pub left : LeavesRoom b.left (b.under / 8)
  pub right : LeavesRoom b.right (b.under / 8)
  pub over : LeavesRoom b.over (b.under / 8)
  pub near : LeavesRoom b.near (b.under / 8)
  pub far : LeavesRoom b.far (b.under / 8)

-- the words are exact, and the voxel is in space and void
pub record CanFillOne (g : Grid) (c : Coord) : Type 0 where
  pub exact : AreExact g.resolution (word_at g)
  pub within : IsInSpace g.resolution c
  pub void : word_at g c ≡ 0

-- the same of a voxel whose brick has the slot
pub record CanFillOneIn (g : Grid) (c : Coord) (own : ℕ) : Type 0 where
  pub can : CanFillOne g c
  pub slot : slot_of g c ≡ Some own

-- the voxel became full, and the words are exact
pub record HaveFilledOne (old new : Grid) (c : Coord) (before after : ℕ) : Type 0 where
  pub resolution : new.resolution ≡ old.resolution
  pub exact : AreExact new.resolution (word_at new)
  pub full : 0 < word_at new c
  pub kept : (d : Coord) → (d ≡ c → ⊥) → word_at new d ≡ word_at old d
  pub cost : after ≤ before + 7

-- the voxel became full, or nothing changed
abbrev pub FillsOrStays : Bool → Grid → Grid → Coord → ℕ → ℕ → Type 0
FillsOrStays done old new c before after =
    MatchBool done (HaveFilledOne old new c before after) ((new ≡ old) × (after ≤ before + 6))

-- the same, and a voxel that became full has a height
pub record FillsSupportedOrStays (done : Bool) (old new : Grid) (c : Coord) (before after : ℕ) : Type 0 where
  pub filled : FillsOrStays done old new c before after
  pub held : done ≡ true → 8 ≤ word_at new c

-- the voxels that change no other level became full, one after another, and the others may still be added
pub record HaveFilledEach (old new : Grid) (cells rest : List Coord) (before after : ℕ) : Type 0 where
  pub resolution : new.resolution ≡ old.resolution
  pub left : CanAdd new rest
  pub listed : (c : Coord) → Contains rest c → Contains cells c
  pub full : (c : Coord) → 0 < word_at new c → (0 < word_at old c) ⊎ Contains cells c
  pub kept : (c : Coord) → 0 < word_at old c → word_at new c ≡ word_at old c
  pub filled : (c : Coord) → Contains cells c → (0 < word_at new c) ⊎ Contains rest c
  pub few : length rest ≤ length cells
  pub cost : after + length rest ≤ before + 7 * length cells
