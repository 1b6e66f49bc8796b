-- Neighbors in the same brick, by the parts of an index.
use Rattle.std.proofs.Common.{◌≡◌, ℕ, ◌+◌, ◌-◌, ◌/◌, ◌%◌, ◌<◌, ◌≤◌, sym, ◌∙◌, ap, subst, arith, List, get_or}
use Rattle.vox_geom.specs.declared.coordinate.Coord.{Coord}
use Rattle.vox_geom.specs.Space.{IsInSpace}
use Rattle.brick_arena.specs.Slots.{start_in_chunk}
use Rattle.support_forest.specs.Grid.{Grid, IsStore, LiesAtOffset, side, word_at}
use Rattle.support_forest.specs.FillingOne.{EndsBrick, IsMovedOffsetToward, IsWordToward}
use Rattle.support_forest.specs.Indices.{IsReadAt, voxel_of, voxel_in}
use Rattle.support_forest.proofs.Across.{ends_far, ends_left, ends_near, ends_over, ends_right, ends_under}
use Rattle.support_forest.proofs.Nearby.{is_offset_far, is_offset_left, is_offset_near, is_offset_over, is_offset_right, is_offset_under, lies_beside}
use Rattle.support_forest.proofs.Sides.{one_toward}
use Rattle.support_forest.proofs.Store.{brick_inside, slot_offset_below, same_brick}
use Rattle.support_forest.proofs.Voxels.{digit_x, digit_y, digit_z, slot_offset_at, number_at}
use Rattle.support_forest.proofs.Writes.{reads_offset}

-- ---- the last of its brick

pub last_left : (s p d : ℕ) → d ≡ 1 → p % 64 < 8 → EndsBrick (voxel_of s p) d
last_left s p d e h = let digit = digit_x s p in ends_left (voxel_of s p) d e (omega arith)

pub last_right : (s p d : ℕ) → d ≡ 2 → 56 ≤ p % 64 → EndsBrick (voxel_of s p) d
last_right s p d e h = let digit = digit_x s p in ends_right (voxel_of s p) d e (omega arith)

pub last_under : (s p d : ℕ) → d ≡ 3 → p % 512 < 64 → EndsBrick (voxel_of s p) d
last_under s p d e h = let digit = digit_y s p in ends_under (voxel_of s p) d e (omega arith)

pub last_over : (s p d : ℕ) → d ≡ 4 → 448 ≤ p % 512 → EndsBrick (voxel_of s p) d
last_over s p d e h = let digit = digit_y s p in ends_over (voxel_of s p) d e (omega arith)

pub last_near : (s p d : ℕ) → d ≡ 5 → p % 8 < 1 → EndsBrick (voxel_of s p) d
last_near s p d e h = let digit = digit_z s p in ends_near (voxel_of s p) d e (omega arith)

pub last_far : (s p d : ℕ) → d ≡ 6 → 7 ≤ p % 8 → EndsBrick (voxel_of s p) d
last_far s p d e h = let digit = digit_z s p in ends_far (voxel_of s p) d e (omega arith)

-- ---- the offset of the neighbor's word

pub offset_left : (s p d at offset : ℕ) → d ≡ 1 → p % 512 ≤ at → 8 ≤ p % 64 → offset + 8 ≡ at
    → IsMovedOffsetToward (voxel_of s p) d (p % 512) at offset
offset_left s p d at offset e own inner is =
    let digit = digit_x s p in
    record { in_slot = p % 512 - 8; toward = is_offset_left (voxel_of s p) d (p % 512) (p % 512 - 8) e (sym (slot_offset_at s p)) (omega arith) (omega arith); moved = omega arith }

pub offset_right : (s p d at offset : ℕ) → d ≡ 2 → p % 64 < 56 → offset ≡ at + 8
    → IsMovedOffsetToward (voxel_of s p) d (p % 512) at offset
offset_right s p d at offset e inner is =
    let digit = digit_x s p in
    record { in_slot = p % 512 + 8; toward = is_offset_right (voxel_of s p) d (p % 512) (p % 512 + 8) e (sym (slot_offset_at s p)) (omega arith) (omega arith); moved = omega arith }

pub offset_under : (s p d at offset : ℕ) → d ≡ 3 → p % 512 ≤ at → 64 ≤ p % 512 → offset + 64 ≡ at
    → IsMovedOffsetToward (voxel_of s p) d (p % 512) at offset
offset_under s p d at offset e own inner is =
    let digit = digit_y s p in
    record { in_slot = p % 512 - 64; toward = is_offset_under (voxel_of s p) d (p % 512) (p % 512 - 64) e (sym (slot_offset_at s p)) (omega arith) (omega arith); moved = omega arith }

pub offset_over : (s p d at offset : ℕ) → d ≡ 4 → p % 512 < 448 → offset ≡ at + 64
    → IsMovedOffsetToward (voxel_of s p) d (p % 512) at offset
offset_over s p d at offset e inner is =
    let digit = digit_y s p in
    record { in_slot = p % 512 + 64; toward = is_offset_over (voxel_of s p) d (p % 512) (p % 512 + 64) e (sym (slot_offset_at s p)) (omega arith) (omega arith); moved = omega arith }

pub offset_near : (s p d at offset : ℕ) → d ≡ 5 → p % 512 ≤ at → 1 ≤ p % 8 → offset + 1 ≡ at
    → IsMovedOffsetToward (voxel_of s p) d (p % 512) at offset
offset_near s p d at offset e own inner is =
    let digit = digit_z s p in
    record { in_slot = p % 512 - 1; toward = is_offset_near (voxel_of s p) d (p % 512) (p % 512 - 1) e (sym (slot_offset_at s p)) (omega arith) (omega arith); moved = omega arith }

pub offset_far : (s p d at offset : ℕ) → d ≡ 6 → p % 8 < 7 → offset ≡ at + 1
    → IsMovedOffsetToward (voxel_of s p) d (p % 512) at offset
offset_far s p d at offset e inner is =
    let digit = digit_z s p in
    record { in_slot = p % 512 + 1; toward = is_offset_far (voxel_of s p) d (p % 512) (p % 512 + 1) e (sym (slot_offset_at s p)) (omega arith) (omega arith); moved = omega arith }

-- ---- the word there

-- the neighbor's own index
pub lies_within : (g : Grid) (p d next : ℕ) → IsInSpace g.resolution (voxel_in g p)
    → (t : IsMovedOffsetToward (voxel_in g p) d (p % 512) p next)
    → LiesAtOffset g.resolution (next / 512) (next % 512) t.toward.there
lies_within g p d next within t =
    let below = slot_offset_below t.toward.there in
    let at_offset = t.toward.at_offset in
    let moved = t.moved in
    record {
      within = subst (λ (b : Coord). IsInSpace (side g.resolution) b) (sym t.toward.same_brick) (brick_inside g.resolution (voxel_in g p) within);
      in_brick = same_brick g.resolution t.toward.there (voxel_in g p) t.toward.same_brick ∙ (number_at g.resolution p ∙ omega arith);
      at_offset = omega arith;
    }

pub word_within : (g : Grid) (p d next word : ℕ) → IsInSpace g.resolution (voxel_in g p)
    → IsMovedOffsetToward (voxel_in g p) d (p % 512) p next
    → ((q : Coord) → LiesAtOffset g.resolution (next / 512) (next % 512) q → word_at g q ≡ word)
    → IsWordToward (word_at g) (voxel_in g p) d word
word_within g p d next word within t value = record {
  each = λ q k. ap (word_at g) (one_toward d (voxel_in g p) q t.toward.there k t.toward.toward) ∙ value t.toward.there (lies_within g p d next within t);
  some = λ f. (t.toward.there, t.toward.toward);
}

-- its offset in the chunk
pub offset_is : (g : Grid) (p own d at offset : ℕ) (words : List ℕ) → IsReadAt g p own words at
    → (t : IsMovedOffsetToward (voxel_in g p) d (p % 512) at offset) → offset ≡ start_in_chunk own + t.in_slot
offset_is g p own d at offset words read t = let moved = t.moved in let start = read.at in omega arith

pub word_in_chunk : (g : Grid) (p own d at offset word : ℕ) (words : List ℕ) → IsStore g → IsReadAt g p own words at
    → IsMovedOffsetToward (voxel_in g p) d (p % 512) at offset → word ≡ get_or words offset 0
    → IsWordToward (word_at g) (voxel_in g p) d word
word_in_chunk g p own d at offset word words store read t is =
    let below : t.in_slot < 512 = let below_512 = slot_offset_below t.toward.there in let same = t.toward.at_offset in omega arith in
    let read_is = is ∙ (ap (λ (k : ℕ). get_or words k 0) (offset_is g p own d at offset words read t) ∙ read.chunk.each t.in_slot below) in
    let index_read = reads_offset g t.toward.there own t.in_slot word store (lies_beside g (voxel_in g p) d own t.in_slot read.within read.slot t.toward) read_is in
    record {
      each = λ q k. ap (word_at g) (one_toward d (voxel_in g p) q t.toward.there k t.toward.toward) ∙ index_read;
      some = λ f. (t.toward.there, t.toward.toward);
    }
