-- The words of a voxel's neighbors.
use Rattle.std.proofs.Common.{◌≡◌, ℕ, ◌+◌, ◌-◌, ◌/◌, ◌%◌, ◌<◌, refl, sym, ◌∙◌, ap, subst, arith, List, Option, Some}
use Rattle.vox_geom.specs.declared.coordinate.Coord.{Coord}
use Rattle.vox_geom.specs.Space.{IsInSpace}
use Rattle.support_forest.specs.declared.beside.Beside.{Beside}
use Rattle.support_forest.specs.Directions.{Toward, AreBeside, lies_left, lies_right, lies_under, lies_over, lies_near, lies_far}
use Rattle.support_forest.specs.Grid.{Grid, LiesAt, brick, brick_number, offset_in_slot, side, slot_at, slot_of}
use Rattle.support_forest.specs.FillingOne.{AreBesideWords, IsOffsetToward, StayAfter}
use Rattle.support_forest.specs.Words.{IsWritten}
use Rattle.support_forest.proofs.Sides.{one_direction}
use Rattle.support_forest.proofs.Store.{brick_inside, same_brick}

-- a fact about each of the six words is one about a neighbor's
pub each_beside : (w : Coord → ℕ) (c q : Coord) (b : Beside) (P : ℕ → Type 0) → AreBesideWords w c b → P b.left
    → P b.right → P b.under → P b.over → P b.near → P b.far → AreBeside c q → P (w q)
each_beside w c q b P k left right under over near far n = by n.direction n.toward
  where
    by : (d : ℕ) → Toward d c q → P (w q)
    by d (lies_left h) = subst P (sym (k.left.each q (lies_left (refl, h.1, h.2, h.3)))) left
    by d (lies_right h) = subst P (sym (k.right.each q (lies_right (refl, h.1, h.2, h.3)))) right
    by d (lies_under h) = subst P (sym (k.under.each q (lies_under (refl, h.1, h.2, h.3)))) under
    by d (lies_over h) = subst P (sym (k.over.each q (lies_over (refl, h.1, h.2, h.3)))) over
    by d (lies_near h) = subst P (sym (k.near.each q (lies_near (refl, h.1, h.2, h.3)))) near
    by d (lies_far h) = subst P (sym (k.far.each q (lies_far (refl, h.1, h.2, h.3)))) far

-- the third direction leads down
pub toward_down : (c q : Coord) → Toward 3 c q → c.y ≡ q.y + 1
toward_down c q (lies_left h) = absurd (omega arith)
toward_down c q (lies_right h) = absurd (omega arith)
toward_down c q (lies_under h) = h.2
toward_down c q (lies_over h) = absurd (omega arith)
toward_down c q (lies_near h) = absurd (omega arith)
toward_down c q (lies_far h) = absurd (omega arith)

-- voxels of one brick have its slot
pub same_slot : (g : Grid) (c d : Coord) (own : Option ℕ) → brick d ≡ brick c → own ≡ slot_of g c → own ≡ slot_of g d
same_slot g c d own e h = subst (λ (n : ℕ). own ≡ slot_at g.table n) (sym (same_brick g.resolution d c e)) h

-- ---- the offset of a neighbor's word in the same brick

pub is_offset_left : (c : Coord) (d slot_offset i : ℕ) → d ≡ 1 → slot_offset ≡ offset_in_slot c → 0 < c.x % 8
    → i + 8 ≡ slot_offset → IsOffsetToward c d i
unfolding offset_in_slot
is_offset_left c d slot_offset i n e h k = record {
  there = record { x = c.x - 1; y = c.y; z = c.z };
  toward = lies_left (n, omega arith, refl, refl);
  same_brick = let quotient_is : (c.x - 1) / 8 ≡ c.x / 8 = omega arith in λ j. record { x = quotient_is j; y = c.y / 8; z = c.z / 8 };
  at_offset = omega arith;
}

pub is_offset_right : (c : Coord) (d slot_offset i : ℕ) → d ≡ 2 → slot_offset ≡ offset_in_slot c → c.x % 8 < 7
    → i ≡ slot_offset + 8 → IsOffsetToward c d i
unfolding offset_in_slot
is_offset_right c d slot_offset i n e h k = record {
  there = record { x = c.x + 1; y = c.y; z = c.z };
  toward = lies_right (n, omega arith, refl, refl);
  same_brick = let quotient_is : (c.x + 1) / 8 ≡ c.x / 8 = omega arith in λ j. record { x = quotient_is j; y = c.y / 8; z = c.z / 8 };
  at_offset = omega arith;
}

pub is_offset_under : (c : Coord) (d slot_offset i : ℕ) → d ≡ 3 → slot_offset ≡ offset_in_slot c → 0 < c.y % 8
    → i + 64 ≡ slot_offset → IsOffsetToward c d i
unfolding offset_in_slot
is_offset_under c d slot_offset i n e h k = record {
  there = record { x = c.x; y = c.y - 1; z = c.z };
  toward = lies_under (n, refl, omega arith, refl);
  same_brick = let quotient_is : (c.y - 1) / 8 ≡ c.y / 8 = omega arith in λ j. record { x = c.x / 8; y = quotient_is j; z = c.z / 8 };
  at_offset = omega arith;
}

pub is_offset_over : (c : Coord) (d slot_offset i : ℕ) → d ≡ 4 → slot_offset ≡ offset_in_slot c → c.y % 8 < 7
    → i ≡ slot_offset + 64 → IsOffsetToward c d i
unfolding offset_in_slot
is_offset_over c d slot_offset i n e h k = record {
  there = record { x = c.x; y = c.y + 1; z = c.z };
  toward = lies_over (n, refl, omega arith, refl);
  same_brick = let quotient_is : (c.y + 1) / 8 ≡ c.y / 8 = omega arith in λ j. record { x = c.x / 8; y = quotient_is j; z = c.z / 8 };
  at_offset = omega arith;
}

pub is_offset_near : (c : Coord) (d slot_offset i : ℕ) → d ≡ 5 → slot_offset ≡ offset_in_slot c → 0 < c.z % 8
    → i + 1 ≡ slot_offset → IsOffsetToward c d i
unfolding offset_in_slot
is_offset_near c d slot_offset i n e h k = record {
  there = record { x = c.x; y = c.y; z = c.z - 1 };
  toward = lies_near (n, refl, refl, omega arith);
  same_brick = let quotient_is : (c.z - 1) / 8 ≡ c.z / 8 = omega arith in λ j. record { x = c.x / 8; y = c.y / 8; z = quotient_is j };
  at_offset = omega arith;
}

pub is_offset_far : (c : Coord) (d slot_offset i : ℕ) → d ≡ 6 → slot_offset ≡ offset_in_slot c → c.z % 8 < 7
    → i ≡ slot_offset + 1 → IsOffsetToward c d i
unfolding offset_in_slot
is_offset_far c d slot_offset i n e h k = record {
  there = record { x = c.x; y = c.y; z = c.z + 1 };
  toward = lies_far (n, refl, refl, omega arith);
  same_brick = let quotient_is : (c.z + 1) / 8 ≡ c.z / 8 = omega arith in λ j. record { x = c.x / 8; y = c.y / 8; z = quotient_is j };
  at_offset = omega arith;
}

-- a neighbor in the same brick has its word in the same slot
pub lies_beside : (g : Grid) (c : Coord) (d slot slot_offset : ℕ) → IsInSpace g.resolution c → slot_of g c ≡ Some slot
    → (t : IsOffsetToward c d slot_offset) → LiesAt g slot slot_offset t.there
lies_beside g c d slot slot_offset i e t = record {
  within = subst (λ (b : Coord). IsInSpace (side g.resolution) b) (sym t.same_brick) (brick_inside g.resolution c i);
  in_slot = sym (same_slot g c t.there (Some slot) t.same_brick (sym e));
  at_offset = t.at_offset;
}

-- if the table stays, a brick keeps its slot
pub slot_stays : (g h : Grid) (c : Coord) (own : Option ℕ) → h.table ≡ g.table → h.resolution ≡ g.resolution
    → own ≡ slot_of g c → own ≡ slot_of h c
slot_stays g h c own t r e = e ∙ (ap (λ (n : ℕ). slot_at g.table (brick_number n c)) (sym r) ∙ ap (λ (l : List (Option ℕ)). slot_at l (brick_number h.resolution c)) (sym t))

-- ---- the words of other neighbors

-- if a neighbor's word is written, those of the others stay
pub stay_after : (w v : Coord → ℕ) (c q : Coord) (d word : ℕ) → Toward d c q → IsWritten w v q word → StayAfter w v c d
stay_after w v c q d word t n k m l h = record {
  each = λ p u. n.kept p (λ e. let d_is : d ≡ k = one_direction d k c q t (subst (λ (x : Coord). Toward k c x) e u) in absurd (omega arith)) ∙ h.each p u;
  some = h.some;
}
