-- The preconditions and effects of reading and writing a voxel's word.
use Rattle.std.specs.Prelude.{◌≡◌, ℕ, ◌+◌, ◌<◌, ◌≤◌, Some}
use Rattle.brick_arena.specs.Slots.{IsLive}
use Rattle.vox_geom.specs.declared.coordinate.Coord.{Coord}
use Rattle.vox_geom.specs.Space.{IsInSpace}
use Rattle.support_forest.specs.Grid.{Grid, offset_in_slot, slot_at, slot_of, word_at}
use Rattle.support_forest.specs.FillingOne.{IsWordToward}
use Rattle.support_forest.specs.Indices.{voxel_in}
use Rattle.support_forest.specs.Words.{IsWritten}

-- the voxel lies in space, and so do all full voxels
pub record LieInSpace (g : Grid) (c : Coord) : Type 0 where
  pub within : IsInSpace g.resolution c
  pub space : (q : Coord) → 0 < word_at g q → IsInSpace g.resolution q

-- the same, and the slot is that of the voxel's brick
pub record LieInBrick (g : Grid) (c : Coord) (own : ℕ) : Type 0 where
  pub within : IsInSpace g.resolution c
  pub slot : slot_of g c ≡ Some own
  pub space : (q : Coord) → 0 < word_at g q → IsInSpace g.resolution q

-- the voxel lies in space, and its word is at this offset in the slot of its brick
pub record IsWordIn (g : Grid) (own at word : ℕ) (c : Coord) : Type 0 where
  pub within : IsInSpace g.resolution c
  pub slot : slot_of g c ≡ Some own
  pub offset : at ≡ offset_in_slot c
  pub stands : word ≡ word_at g c

-- the brick of that number has the slot, which is live; no word changed
pub record HasTakenSlot (old new : Grid) (number own : ℕ) : Type 0 where
  pub slot : slot_at new.table number ≡ Some own
  pub live : IsLive new.bricks own
  pub same : (c : Coord) → word_at new c ≡ word_at old c

-- the call wrote the voxel's word, with one touch
pub record HasWritten (old new : Grid) (c : Coord) (word before after : ℕ) : Type 0 where
  pub resolution : new.resolution ≡ old.resolution
  pub slots : new.table ≡ old.table
  pub written : IsWritten (word_at old) (word_at new) c word
  pub touch : after ≡ before + 1

-- the call read, with one touch at most, the word of the neighbor in the direction of the voxel at the index; 0 if there
-- is no neighbor
pub record ReadsToward (g : Grid) (index d read before after : ℕ) : Type 0 where
  pub word : IsWordToward (word_at g) (voxel_in g index) d read
  pub touch : after ≤ before + 1
