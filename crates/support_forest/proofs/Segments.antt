-- Segments of a row of a brick: voxels that follow one another, and become void together.
use Rattle.std.proofs.Common.{◌≡◌, ℕ, ◌+◌, ◌-◌, ◌*◌, ◌/◌, ◌%◌, ◌<◌, ◌≤◌, inl, inr, refl, sym, ◌∙◌, ap, subst, arith, List, length, get_or, Option, Some, None}
use Rattle.std.specs.Prelude.{slice_index_or}
use Rattle.std.proofs.lemmas.List.{get_or_default}
use Rattle.vox_geom.specs.declared.coordinate.Coord.{Coord}
use Rattle.vox_geom.specs.Space.{IsInSpace}
use Rattle.support_forest.specs.Directions.{Toward, lies_left, lies_right, lies_under, lies_over, lies_near, lies_far}
use Rattle.brick_arena.specs.Slots.{HasSlot, start_in_chunk, swapped, words_of}
use Rattle.support_forest.specs.Access.{LieInBrick}
use Rattle.support_forest.specs.Grid.{Grid, IsStore, LiesAt, LiesAtOffset, brick, offset_in_slot, side, slot_at, slot_of, word_at, word_in, word_index}
use Rattle.support_forest.specs.FillingOne.{IsOffsetToward, IsIndexAcross, IsWordToward, NoneToward}
use Rattle.support_forest.specs.Segments.{EndsAreFree, LieInRow, IsSegment, RowHangsNot, RowIsFree, SideHangsNot, SidesAreFree, WordsHangNot, further, whole_row_start}
use Rattle.support_forest.specs.VoidingOne.{HangsNot}
use Rattle.support_forest.specs.Words.{AreExact}
use Rattle.support_forest.proofs.Nearby.{same_slot, lies_beside}
use Rattle.support_forest.proofs.Sides.{one_toward}
use Rattle.support_forest.proofs.Store.{brick_inside, slot_offset_below}
use Rattle.support_forest.proofs.Writes.{reads_offset}

-- ---- the start of a segment

-- as many of the last voxels before the end follow one another
pub record IsBefore (gone : List Coord) (end : ℕ) (last : Coord) (most count : ℕ) : Type 0 where
  pub some : 0 < count
  pub within : count ≤ end
  pub few : count ≤ most
  pub row : most ≡ last.z % 8 + 1
  pub each : (k i : ℕ) (d : Coord) → k < count → i + k + 1 ≡ end
      → slice_index_or gone i d ≡ record { x = last.x; y = last.y; z = last.z - k }

pub segment_from : (gone : List Coord) (end : ℕ) (last : Coord) (most count : ℕ) (c : Coord)
    → IsBefore gone end last most count → end ≤ length gone → c ≡ slice_index_or gone (end - count) c
    → IsSegment gone (end - count) count c
segment_from gone end last most count c b l h =
    let some_there = b.some in
    let its_within = b.within in
    let few = b.few in
    let its_row = b.row in
    let record_is : c ≡ record { x = last.x; y = last.y; z = last.z - (count - 1) } = h ∙ b.each (count - 1) (end - count) c (omega arith) (omega arith) in
    let same_x : last.x ≡ c.x = sym (ap (λ (p : Coord). p.x) record_is) in
    let same_y : last.y ≡ c.y = sym (ap (λ (p : Coord). p.y) record_is) in
    let z_is : c.z ≡ last.z - (count - 1) = ap (λ (p : Coord). p.z) record_is in
    record {
      some = some_there;
      within = omega arith;
      row = omega arith;
      each = λ k d m.
          let difference_is : last.z - (count - 1 - k) ≡ c.z + k = omega arith in
          let is_further : record { x = last.x; y = last.y; z = last.z - (count - 1 - k) } ≡ further c k = λ j. record { x = same_x j; y = same_y j; z = difference_is j } in
          b.each (count - 1 - k) (end - count + k) d (omega arith) (omega arith) ∙ is_further;
    }

-- ---- the words of a row

pub row_space : (g : Grid) (c : Coord) (n k : ℕ) → LieInRow g c n → k < n → IsInSpace g.resolution (further c k)
row_space g c n k h l = record { x = h.within.x; y = h.within.y; z = let last = h.last in omega arith }

-- the voxels of a row lie in one brick
row_brick : (c : Coord) (n k : ℕ) → c.z % 8 + n ≤ 8 → k < n → brick (further c k) ≡ brick c
row_brick c n k r l = let quotient_is : (c.z + k) / 8 ≡ c.z / 8 = omega arith in λ j. record { x = c.x / 8; y = c.y / 8; z = quotient_is j }

pub row_slot : (g : Grid) (c : Coord) (n k : ℕ) (own : Option ℕ) → LieInRow g c n → k < n → own ≡ slot_of g c
    → own ≡ slot_of g (further c k)
row_slot g c n k own h l e = same_slot g c (further c k) own (row_brick c n k h.row l) e

pub row_place : (c : Coord) (n k at : ℕ) → c.z % 8 + n ≤ 8 → k < n → at ≡ offset_in_slot c
    → offset_in_slot (further c k) ≡ at + k
unfolding offset_in_slot
row_place c n k at r l e = omega arith

pub row_index : (c : Coord) (n k index : ℕ) → c.z % 8 + n ≤ 8 → k < n → index ≡ word_index c
    → word_index (further c k) ≡ index + k
unfolding word_index
row_index c n k index r l e = omega arith

-- the words of a row are in the chunk that has its slot
pub row_in_chunk : (g : Grid) (chunk : List ℕ) (slot slot_offset from n : ℕ) (c : Coord) → HasSlot g.bricks slot chunk
    → slot_offset ≡ offset_in_slot c → c.z % 8 + n ≤ 8 → from ≡ start_in_chunk slot + slot_offset
    → from + n ≤ length chunk
unfolding offset_in_slot
row_in_chunk g chunk slot slot_offset from n c h e r f = let full = h.full in omega arith

-- the words of the row are those of the chunk; the row may lie beyond space
pub row_word : (g : Grid) (chunk : List ℕ) (slot slot_offset from n : ℕ) (c : Coord) → IsStore g
    → IsInSpace (side g.resolution) (brick c) → c.z % 8 + n ≤ 8 → slot_of g c ≡ Some slot → HasSlot g.bricks slot chunk
    → slot_offset ≡ offset_in_slot c → from ≡ start_in_chunk slot + slot_offset → (k : ℕ) → k < n
    → word_at g (further c k) ≡ get_or chunk (from + k) 0
row_word g chunk slot slot_offset from n c s b r e h i f k l =
    let same : brick (further c k) ≡ brick c = row_brick c n k r l in
    let at : offset_in_slot (further c k) ≡ slot_offset + k = row_place c n k slot_offset r l i in
    let below : slot_offset + k < 512 = let below_512 = slot_offset_below (further c k) in omega arith in
    let stands : LiesAt g slot (slot_offset + k) (further c k) = record {
      within = subst (λ (x : Coord). IsInSpace (side g.resolution) x) (sym same) b;
      in_slot = sym (same_slot g c (further c k) (Some slot) same (sym e));
      at_offset = at;
    } in
    let place : from + k ≡ start_in_chunk slot + (slot_offset + k) = omega arith in
    let read : word_at g (further c k) ≡ get_or (words_of g.bricks slot) (swapped (slot_offset + k)) 0 = reads_offset g (further c k) slot (slot_offset + k) (get_or (words_of g.bricks slot) (swapped (slot_offset + k)) 0) s stands refl in
    read ∙ sym (ap (λ (j : ℕ). get_or chunk j 0) place ∙ h.each (slot_offset + k) below)

-- a fact about the words of the chunk is one about those of the row
pub row_in_slot : (g : Grid) (chunk : List ℕ) (slot slot_offset from n : ℕ) (c : Coord) (P : ℕ → Type 0) → IsStore g
    → IsInSpace (side g.resolution) (brick c) → c.z % 8 + n ≤ 8 → slot_of g c ≡ Some slot → HasSlot g.bricks slot chunk
    → slot_offset ≡ offset_in_slot c → from ≡ start_in_chunk slot + slot_offset
    → ((k : ℕ) → k < n → P (get_or chunk (from + k) 0)) → (k : ℕ) → k < n → P (word_at g (further c k))
row_in_slot g chunk slot slot_offset from n c P s b r e h i f w k l =
    subst P (sym (row_word g chunk slot slot_offset from n c s b r e h i f k l)) (w k l)

-- the offset of a row in its line of a brick, by that in its slot
pub row_part : (q : Coord) (slot_offset n : ℕ) → offset_in_slot q ≡ slot_offset → slot_offset % 8 + n ≤ 8
    → q.z % 8 + n ≤ 8
unfolding offset_in_slot
row_part q slot_offset n e r = omega arith

-- the words of a row in a brick of the table, which may lie beyond space
pub standing_row : (g : Grid) (chunk : List ℕ) (slot number slot_offset from n : ℕ) (q : Coord) (P : ℕ → Type 0)
    → IsStore g → LiesAtOffset g.resolution number slot_offset q → slot_offset % 8 + n ≤ 8
    → Some slot ≡ slot_at g.table number → HasSlot g.bricks slot chunk → from ≡ start_in_chunk slot + slot_offset
    → ((k : ℕ) → k < n → P (get_or chunk (from + k) 0)) → (k : ℕ) → k < n → P (word_at g (further q k))
standing_row g chunk slot number slot_offset from n q P store s r e h f w =
    row_in_slot g chunk slot slot_offset from n q P store s.within (row_part q slot_offset n s.at_offset r)
    (ap (λ (k : ℕ). slot_at g.table k) s.in_brick ∙ sym e) h (sym s.at_offset) f w

-- a row in a brick without a slot is void
pub standing_void : (g : Grid) (number slot_offset n toward : ℕ) (q : Coord) → IsStore g
    → LiesAtOffset g.resolution number slot_offset q → slot_offset % 8 + n ≤ 8 → None ≡ slot_at g.table number
    → RowHangsNot (word_at g) q n toward
standing_void g number slot_offset n toward q store s r e k l f =
    let same : brick (further q k) ≡ brick q = row_brick q n k (row_part q slot_offset n s.at_offset r) l in
    let slot : None ≡ slot_of g (further q k) = same_slot g q (further q k) None same (e ∙ ap (λ (j : ℕ). slot_at g.table j) (sym s.in_brick)) in
    let word_is : 0 ≡ word_at g (further q k) = ap (λ (o : Option ℕ). word_in g.bricks o (word_index (further q k))) slot
    ∙ store.words (further q k) (subst (λ (b : Coord). IsInSpace (side g.resolution) b) (sym same) s.within) in
    absurd (omega arith)

-- ---- the words at a side

-- a neighbor, k further, is the neighbor of the voxel k further
toward_further : (d k : ℕ) (c q : Coord) → d ≤ 4 → Toward d c q → Toward d (further c k) (further q k)
toward_further d k c q r (lies_left h) = lies_left (h.0, h.1, h.2, omega arith)
toward_further d k c q r (lies_right h) = lies_right (h.0, h.1, h.2, omega arith)
toward_further d k c q r (lies_under h) = lies_under (h.0, h.1, h.2, omega arith)
toward_further d k c q r (lies_over h) = lies_over (h.0, h.1, h.2, omega arith)
toward_further d k c q r (lies_near h) = absurd (omega arith)
toward_further d k c q r (lies_far h) = absurd (omega arith)

-- the neighbor of a later voxel is the later one of the first one's neighbor
pub beside_further : (d k : ℕ) (c q p : Coord) → d ≤ 4 → Toward d c q → Toward d (further c k) p → p ≡ further q k
beside_further d k c q p r h t = one_toward d (further c k) p (further q k) t (toward_further d k c q r h)

same_height : (d : ℕ) (c q : Coord) → d ≤ 4 → Toward d c q → q.z ≡ c.z
same_height d c q r (lies_left h) = omega arith
same_height d c q r (lies_right h) = omega arith
same_height d c q r (lies_under h) = omega arith
same_height d c q r (lies_over h) = omega arith
same_height d c q r (lies_near h) = absurd (omega arith)
same_height d c q r (lies_far h) = absurd (omega arith)

pub side_free : (w : Coord → ℕ) (c q : Coord) (n d toward : ℕ) → (0 < d) × (d ≤ 4) → Toward d c q
    → RowHangsNot w q n toward → SideHangsNot w c n d toward
side_free w c q n d toward r t h k p l u = subst (λ (x : Coord). HangsNot (w x) toward) (sym (beside_further d k c q p r.1 t u)) (h k l)

side_back : (d k : ℕ) (c p : Coord) → d ≤ 4 → Toward d (further c k) p
    → Toward d c (record { x = p.x; y = p.y; z = c.z })
side_back d k c p r (lies_left h) = lies_left (h.0, h.1, h.2, refl)
side_back d k c p r (lies_right h) = lies_right (h.0, h.1, h.2, refl)
side_back d k c p r (lies_under h) = lies_under (h.0, h.1, h.2, refl)
side_back d k c p r (lies_over h) = lies_over (h.0, h.1, h.2, refl)
side_back d k c p r (lies_near h) = absurd (omega arith)
side_back d k c p r (lies_far h) = absurd (omega arith)

pub side_none : (g : Grid) (c : Coord) (n d toward own : ℕ) → (0 < d) × (d ≤ 4) → LieInBrick g c own
    → NoneToward g.resolution c d → SideHangsNot (word_at g) c n d toward
side_none g c n d toward own b h none k p l t f m =
    let space_here = h.space p (omega arith) in
    let within_z = h.within.z in
    none (record { x = p.x; y = p.y; z = c.z }) (side_back d k c p b.1 t) (record { x = space_here.x; y = space_here.y; z = within_z })

-- a side in the same brick
pub side_in_slot : (g : Grid) (chunk : List ℕ) (slot slot_offset from n d toward : ℕ) (c : Coord) → (0 < d) × (d ≤ 4)
    → IsStore g → LieInBrick g c slot → c.z % 8 + n ≤ 8 → HasSlot g.bricks slot chunk → IsOffsetToward c d slot_offset
    → from ≡ start_in_chunk slot + slot_offset → WordsHangNot chunk from n toward
    → SideHangsNot (word_at g) c n d toward
side_in_slot g chunk slot slot_offset from n d toward c r s b row h t f w =
    let at : LiesAt g slot slot_offset t.there = lies_beside g c d slot slot_offset b.within b.slot t in
    let same_z : t.there.z ≡ c.z = same_height d c t.there r.1 t.toward in
    side_free (word_at g) c t.there n d toward r t.toward
    (row_in_slot g chunk slot slot_offset from n t.there (λ v. HangsNot v toward) s at.within (omega arith) at.in_slot h (sym at.at_offset) f w)

pub side_in_chunk : (g : Grid) (chunk : List ℕ) (slot slot_offset from n d : ℕ) (c : Coord) → d ≤ 4 → c.z % 8 + n ≤ 8
    → HasSlot g.bricks slot chunk → IsOffsetToward c d slot_offset → from ≡ start_in_chunk slot + slot_offset
    → from + n ≤ length chunk
side_in_chunk g chunk slot slot_offset from n d c r row h t f =
    let same_z : t.there.z ≡ c.z = same_height d c t.there r t.toward in
    row_in_chunk g chunk slot slot_offset from n t.there h (sym t.at_offset) (omega arith) f

-- a side over the border of the brick: the row at its index is the neighbor row, or none lies in space
pub side_across : (g : Grid) (c : Coord) (n d toward next own : ℕ) → (0 < d) × (d ≤ 4) → LieInBrick g c own
    → IsIndexAcross g.resolution c d next
    → ((q : Coord) → LiesAtOffset g.resolution (next / 512) (next % 512) q → RowHangsNot (word_at g) q n toward)
    → SideHangsNot (word_at g) c n d toward
side_across g c n d toward next own r b (inl s) free = side_free (word_at g) c s.there n d toward r s.toward (free s.there s.stands)
side_across g c n d toward next own r b (inr s) free = side_none g c n d toward own r b s.0

pub end_free : (w : Coord → ℕ) (c : Coord) (d toward word : ℕ) → IsWordToward w c d word → HangsNot word toward
    → SideHangsNot w c 1 d toward
end_free w c d toward word t h k p l u =
    let sum_is : c.z + k ≡ c.z = omega arith in
    let further_is : further c k ≡ c = λ j. record { x = c.x; y = c.y; z = sum_is j } in
    subst (λ (v : ℕ). HangsNot v toward) (sym (t.each p (subst (λ (x : Coord). Toward d x p) further_is u))) h

pub far_free : (w : Coord → ℕ) (c : Coord) (n : ℕ) → 0 < n → SideHangsNot w (further c (n - 1)) 1 6 5 → (p : Coord)
    → p.x ≡ c.x → p.y ≡ c.y → p.z ≡ c.z + n → HangsNot (w p) 5
far_free w c n s h p x y z = h 0 p (omega arith) (lies_far (refl, omega arith, omega arith, omega arith))

-- ---- the voxels of a segment

pub segment_full : (g : Grid) (gone : List Coord) (end count k : ℕ) (c : Coord) → IsSegment gone (end - count) count c
    → count ≤ end → ((i : ℕ) (x : Coord) → i < end → x ≡ slice_index_or gone i x → 0 < word_at g x) → k < count
    → 0 < word_at g (further c k)
segment_full g gone end count k c s b full l = full (end - count + k) (further c k) (omega arith) (sym (s.each k (further c k) l))

pub segment_in_row : (g : Grid) (gone : List Coord) (end count : ℕ) (c : Coord) → AreExact g.resolution (word_at g)
    → IsSegment gone (end - count) count c → count ≤ end
    → ((i : ℕ) (x : Coord) → i < end → x ≡ slice_index_or gone i x → 0 < word_at g x) → LieInRow g c count
segment_in_row g gone end count c e s b full =
    let some_there = s.some in
    let first = e.space (further c 0) (segment_full g gone end count 0 c s b full some_there) in
    let last = e.space (further c (count - 1)) (segment_full g gone end count (count - 1) c s b full (omega arith)) in
    record {
      within = record { x = first.x; y = first.y; z = let first_z = first.z in omega arith };
      last = let last_z = last.z in omega arith;
      row = s.row;
    }

-- the first voxel of a segment, as it was read
pub first_of : (gone : List Coord) (end from count : ℕ) (d : Coord) → 0 < count → count ≤ end → end ≤ length gone
    → from ≡ count
    → slice_index_or gone (end - from) d ≡ slice_index_or gone (end - count) (slice_index_or gone (end - from) d)
first_of gone end from count d s b l e =
    get_or_default gone (end - from) d (slice_index_or gone (end - from) d) (omega arith) ∙ ap (λ (k : ℕ). slice_index_or gone (end - k) (slice_index_or gone (end - from) d)) e

-- ---- a part of a whole row

pub row_has : (c : Coord) (k : ℕ) → further c k ≡ further (whole_row_start c) (c.z % 8 + k)
row_has c k = let sum_is : c.z + k ≡ c.z / 8 * 8 + (c.z % 8 + k) = omega arith in λ j. record { x = c.x; y = c.y; z = sum_is j }

part_side : (w : Coord → ℕ) (c : Coord) (n d toward : ℕ) → c.z % 8 + n ≤ 8
    → SideHangsNot w (whole_row_start c) 8 d toward → SideHangsNot w c n d toward
part_side w c n d toward r h k p l t = h (c.z % 8 + k) p (omega arith) (subst (λ (x : Coord). Toward d x p) (row_has c k) t)

pub part_free : (w : Coord → ℕ) (c : Coord) (n : ℕ) → c.z % 8 + n ≤ 8 → SidesAreFree w (whole_row_start c) 8
    → SidesAreFree w c n
part_free w c n r s = record {
  left = part_side w c n 1 2 r s.left;
  right = part_side w c n 2 1 r s.right;
  under = part_side w c n 3 4 r s.under;
  over = part_side w c n 4 3 r s.over;
  own = λ k l. subst (λ (x : Coord). HangsNot (w x) 6) (sym (row_has c k)) (s.own (c.z % 8 + k) (omega arith));
}

whole_row_brick : (c : Coord) → brick (whole_row_start c) ≡ brick c
whole_row_brick c = let product_is : c.z / 8 * 8 / 8 ≡ c.z / 8 = omega arith in λ j. record { x = c.x / 8; y = c.y / 8; z = product_is j }

-- a fact about the words of the whole row in the chunk is one about those of its voxels, which may lie beyond space
pub whole_row_in_slot : (g : Grid) (chunk : List ℕ) (slot slot_offset from : ℕ) (c : Coord) (P : ℕ → Type 0) → IsStore g
    → IsInSpace g.resolution c → slot_of g c ≡ Some slot → HasSlot g.bricks slot chunk
    → slot_offset ≡ offset_in_slot (whole_row_start c) → from ≡ start_in_chunk slot + slot_offset
    → ((k : ℕ) → k < 8 → P (get_or chunk (from + k) 0)) → (k : ℕ) → k < 8
    → P (word_at g (further (whole_row_start c) k))
whole_row_in_slot g chunk slot slot_offset from c P s w e h i f v =
    row_in_slot g chunk slot slot_offset from 8 (whole_row_start c) P s
    (subst (λ (x : Coord). IsInSpace (side g.resolution) x) (sym (whole_row_brick c)) (brick_inside g.resolution c w)) (omega arith)
    (sym (same_slot g c (whole_row_start c) (Some slot) (whole_row_brick c) (sym e))) h i f v

-- the first voxel of the whole row lies in the brick too
pub whole_row_lies : (g : Grid) (own : ℕ) (c : Coord) → LieInBrick g c own → LieInBrick g (whole_row_start c) own
whole_row_lies g own c b = record {
  within = record { x = b.within.x; y = b.within.y; z = let along_z = b.within.z in omega arith };
  slot = sym (same_slot g c (whole_row_start c) (Some own) (whole_row_brick c) (sym b.slot));
  space = b.space;
}

pub row_free : (w : Coord → ℕ) (c : Coord) (n : ℕ) → SidesAreFree w c n → EndsAreFree w c n → RowIsFree w c n
row_free w c n s e = record { left = s.left; right = s.right; under = s.under; over = s.over; near = e.near; own = s.own; far = e.far }
