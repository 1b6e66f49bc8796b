-- Indices of voxels' words. In a store an index is the number of a brick times 512, plus an offset in its slot.
use Rattle.std.specs.Prelude.{◌≡◌, ℕ, ◌+◌, ◌*◌, ◌/◌, ◌%◌, ◌<◌, List, Some}
use Rattle.brick_arena.specs.Slots.{HasSlot, start_in_chunk}
use Rattle.vox_geom.specs.declared.coordinate.Coord.{Coord}
use Rattle.vox_geom.specs.Space.{IsInSpace, coordinate_at}
use Rattle.support_forest.specs.Directions.{Toward}
use Rattle.support_forest.specs.Grid.{Grid, brick, brick_number, offset_in_slot, side, slot_of, word_at}

-- the index of a voxel
unfoldable pub store_index : ℕ → Coord → ℕ
store_index r c = 512 * brick_number r c + offset_in_slot c

-- the voxel of a brick whose word has the offset in the brick's slot
abbrev pub voxel_of_brick : Coord → ℕ → Coord
voxel_of_brick brick at =
    record { x = 8 * brick.x + at / 8 % 8; y = 8 * brick.y + at / 64; z = 8 * brick.z + at % 8 }

-- the voxel at an index, with `side` bricks along each axis
unfoldable pub voxel_of : ℕ → ℕ → Coord
voxel_of side index = voxel_of_brick (coordinate_at side (index / 512)) (index % 512)

-- the voxel at an index of the store
abbrev pub voxel_in : Grid → ℕ → Coord
voxel_in g index = voxel_of (side g.resolution) index

-- the voxel at the index lies in space, and so do all full voxels; the words are those of the chunk with its brick's
-- slot, and the voxel's word is at the offset in them
pub record IsReadAt (g : Grid) (index own : ℕ) (words : List ℕ) (place : ℕ) : Type 0 where
  pub within : IsInSpace g.resolution (voxel_in g index)
  pub space : (q : Coord) → 0 < word_at g q → IsInSpace g.resolution q
  pub slot : slot_of g (voxel_in g index) ≡ Some own
  pub chunk : HasSlot g.bricks own words
  pub at : place ≡ start_in_chunk own + index % 512

-- if the neighbor in the direction of the voxel at the index lies in a brick of the table, it is the voxel at `next`
abbrev pub IsIndexNext : ℕ → ℕ → ℕ → ℕ → Type 0
IsIndexNext bricks index d next =
    (q : Coord) → Toward d (voxel_of bricks index) q → IsInSpace bricks (brick q) → voxel_of bricks next ≡ q

-- the neighbor in the direction of the voxel at the index lies in a brick of the table
pub record IsBrickBeside (bricks index d : ℕ) : Type 0 where
  pub there : Coord
  pub toward : Toward d (voxel_of bricks index) there
  pub within : IsInSpace bricks (brick there)

-- the voxel's neighbor in the direction, if there is one, lies in the same brick
abbrev pub StaysInBrick : Coord → ℕ → Type 0
StaysInBrick c d = (q : Coord) → Toward d c q → brick q ≡ brick c
