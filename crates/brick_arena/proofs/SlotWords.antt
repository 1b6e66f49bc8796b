-- The words of a slot, which are in its chunk at offsets other than their indices.
use Rattle.std.proofs.Common.{◌≡◌, ℕ, ◌+◌, ◌*◌, ◌%◌, ◌<◌, ◌≤◌, sym, ap, ◌∙◌, arith, length, get_or, set, replicate}
use Rattle.brick_arena.specs.Arena.{slot_words}
use Rattle.brick_arena.specs.Slots.{swapped}
use Rattle.brick_arena.proofs.Rows.{get-row, length-row, row-same, row-set, row-const}

-- ---- offsets and indices

pub swapped_below : (i : ℕ) → i < 512 → swapped i < 512
unfolding swapped
swapped_below i l = omega arith

pub swapped_twice : (i : ℕ) → i < 512 → swapped (swapped i) ≡ i
unfolding swapped
swapped_twice i l = omega arith

pub swapped_row : (p k : ℕ) → p % 8 ≡ 0 → k < 8 → swapped (p + k) ≡ swapped p + k
unfolding swapped
swapped_row p k r l = omega arith

-- a row of eight ends within the slot
pub row_ends : (p : ℕ) → p < 512 → p % 8 ≡ 0 → swapped p + 8 ≤ 512
unfolding swapped
row_ends p l r = omega arith

-- the index of an offset differs from that of another offset
pub swapped_apart : (p i : ℕ) → i < 512 → swapped i ≡ p → i ≡ swapped p
swapped_apart p i l e = sym (swapped_twice i l) ∙ ap swapped e

-- ---- the words of a slot

abbrev by_index : (ℕ → ℕ) → ℕ → ℕ → ℕ
by_index m s i = m (512 * s + swapped i)

from_zero : (i : ℕ) → 0 + i ≡ i
from_zero i = omega arith

pub length_slot : (m : ℕ → ℕ) (s : ℕ) → length (slot_words m s) ≡ 512
length_slot m s = length-row (by_index m s) 0 512

pub word_in_slot : (m : ℕ → ℕ) (s i : ℕ) → i < 512 → get_or (slot_words m s) i 0 ≡ m (512 * s + swapped i)
word_in_slot m s i l = get-row (by_index m s) 0 512 i 0 l ∙ ap (by_index m s) (from_zero i)

pub slot_same : (m n : ℕ → ℕ) (s : ℕ) → ((p : ℕ) → p < 512 → n (512 * s + p) ≡ m (512 * s + p))
    → slot_words n s ≡ slot_words m s
slot_same m n s h = row-same (by_index m s) (by_index n s) 0 512 (λ i l. h (swapped (0 + i)) (swapped_below (0 + i) (omega (arith, l))))

pub slot_set : (m n : ℕ → ℕ) (s p w : ℕ) → p < 512 → n (512 * s + p) ≡ w
    → ((q : ℕ) → q < 512 → (q ≡ p → ⊥) → n (512 * s + q) ≡ m (512 * s + q))
    → slot_words n s ≡ set (slot_words m s) (swapped p) w
slot_set m n s p w l here others =
    row-set (by_index m s) (by_index n s) 0 512 (swapped p) w (swapped_below p l)
    (ap (by_index n s) (from_zero (swapped p)) ∙ (ap (λ (k : ℕ). n (512 * s + k)) (swapped_twice p l) ∙ here))
    (λ i k ne. others (swapped (0 + i)) (swapped_below (0 + i) (omega (arith, k)))
    (λ e. ne (sym (from_zero i) ∙ swapped_apart p (0 + i) (omega (arith, k)) e)))

pub slot_const : (m : ℕ → ℕ) (s x : ℕ) → ((p : ℕ) → p < 512 → m (512 * s + p) ≡ x) → slot_words m s ≡ replicate 512 x
slot_const m s x h = row-const (by_index m s) 0 512 x (λ i l. h (swapped (0 + i)) (swapped_below (0 + i) (omega (arith, l))))
