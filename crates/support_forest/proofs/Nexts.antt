-- The indices of neighbors, for n bricks along an axis.
use Rattle.std.proofs.Common.{◌≡◌, ℕ, ◌+◌, ◌-◌, ◌*◌, ◌/◌, ◌%◌, ◌<◌, ◌≤◌, inl, inr, refl, sym, ◌∙◌, ap, subst, arith, Bool, true, false, nat_lt, leb, MatchBool}
use Rattle.std.proofs.lemmas.Bool.{cases_lt, leb-true, leb-false}
use Rattle.vox_geom.specs.declared.coordinate.Coord.{Coord}
use Rattle.vox_geom.specs.Space.{IsInSpace}
use Rattle.vox_geom.proofs.Tests.{less_by_test, not_less_by_test}
use Rattle.support_forest.specs.Directions.{Toward}
use Rattle.support_forest.specs.Grid.{brick, offset_in_slot}
use Rattle.support_forest.specs.FillingOne.{EndsBrick}
use Rattle.support_forest.specs.Indices.{IsBrickBeside, StaysInBrick, voxel_of}
use Rattle.support_forest.proofs.Across.{ends_far, ends_left, ends_near, ends_over, ends_right, ends_under, row_before, row_behind, row_fits, wall_before, wall_behind, wall_fits}
use Rattle.support_forest.proofs.Sides.{sums}
use Rattle.support_forest.proofs.Voxels.{digit_x, digit_y, digit_z, slot_offset_at, place_at, voxel_is}

-- a conditional, by the value of its test
by_test : {P Q : Type 0} (t : Bool) → (t ≡ true → P) → (t ≡ false → Q) → MatchBool t P Q
by_test true k n = k refl
by_test false k n = n refl

one_brick : (q c : Coord) → q.x / 8 ≡ c.x / 8 → q.y / 8 ≡ c.y / 8 → q.z / 8 ≡ c.z / 8 → brick q ≡ brick c
one_brick q c e f g = λ j. record { x = e j; y = f j; z = g j }

-- the index of equal components
same_place : (s a b c x y z n : ℕ) → a ≡ x → b ≡ y → c ≡ z → x * s * s + y * s + z ≡ n → a * s * s + b * s + c ≡ n
same_place s a b c x y z n e f g h =
    ap (λ (k : ℕ). k * s * s + b * s + c) e
    ∙ (ap (λ (k : ℕ). x * s * s + k * s + c) f ∙ (ap (λ (k : ℕ). x * s * s + y * s + k) g ∙ h))

-- ---- the last voxel of a brick

pub ends_or_stays_left : (s p d : ℕ) → d ≡ 1
    → MatchBool (nat_lt (p % 64) 8) (EndsBrick (voxel_of s p) d) (StaysInBrick (voxel_of s p) d)
ends_or_stays_left s p d e =
    let c = voxel_of s p in
    let digit = digit_x s p in
    by_test (nat_lt (p % 64) 8)
    (λ h. let last = less_by_test (p % 64) 8 h in ends_left c d e (omega arith))
    (λ h q t.
    let inner = not_less_by_test (p % 64) 8 h in
    let moved = sums 1 c q (subst (λ (k : ℕ). Toward k c q) e t) in
    one_brick q c (omega arith) (omega arith) (omega arith))

pub ends_or_stays_right : (s p d : ℕ) → d ≡ 2
    → MatchBool (leb 56 (p % 64)) (EndsBrick (voxel_of s p) d) (StaysInBrick (voxel_of s p) d)
ends_or_stays_right s p d e =
    let c = voxel_of s p in
    let digit = digit_x s p in
    by_test (leb 56 (p % 64))
    (λ h. let last = leb-true 56 (p % 64) h in ends_right c d e (omega arith))
    (λ h q t.
    let inner = leb-false 56 (p % 64) h in
    let moved = sums 2 c q (subst (λ (k : ℕ). Toward k c q) e t) in
    one_brick q c (omega arith) (omega arith) (omega arith))

pub ends_or_stays_under : (s p d : ℕ) → d ≡ 3
    → MatchBool (nat_lt (p % 512) 64) (EndsBrick (voxel_of s p) d) (StaysInBrick (voxel_of s p) d)
ends_or_stays_under s p d e =
    let c = voxel_of s p in
    let digit = digit_y s p in
    by_test (nat_lt (p % 512) 64)
    (λ h. let last = less_by_test (p % 512) 64 h in ends_under c d e (omega arith))
    (λ h q t.
    let inner = not_less_by_test (p % 512) 64 h in
    let moved = sums 3 c q (subst (λ (k : ℕ). Toward k c q) e t) in
    one_brick q c (omega arith) (omega arith) (omega arith))

pub ends_or_stays_over : (s p d : ℕ) → d ≡ 4
    → MatchBool (leb 448 (p % 512)) (EndsBrick (voxel_of s p) d) (StaysInBrick (voxel_of s p) d)
ends_or_stays_over s p d e =
    let c = voxel_of s p in
    let digit = digit_y s p in
    by_test (leb 448 (p % 512))
    (λ h. let last = leb-true 448 (p % 512) h in ends_over c d e (omega arith))
    (λ h q t.
    let inner = leb-false 448 (p % 512) h in
    let moved = sums 4 c q (subst (λ (k : ℕ). Toward k c q) e t) in
    one_brick q c (omega arith) (omega arith) (omega arith))

pub ends_or_stays_near : (s p d : ℕ) → d ≡ 5
    → MatchBool (nat_lt (p % 8) 1) (EndsBrick (voxel_of s p) d) (StaysInBrick (voxel_of s p) d)
ends_or_stays_near s p d e =
    let c = voxel_of s p in
    let digit = digit_z s p in
    by_test (nat_lt (p % 8) 1)
    (λ h. let last = less_by_test (p % 8) 1 h in ends_near c d e (omega arith))
    (λ h q t.
    let inner = not_less_by_test (p % 8) 1 h in
    let moved = sums 5 c q (subst (λ (k : ℕ). Toward k c q) e t) in
    one_brick q c (omega arith) (omega arith) (omega arith))

pub ends_or_stays_far : (s p d : ℕ) → d ≡ 6
    → MatchBool (leb 7 (p % 8)) (EndsBrick (voxel_of s p) d) (StaysInBrick (voxel_of s p) d)
ends_or_stays_far s p d e =
    let c = voxel_of s p in
    let digit = digit_z s p in
    by_test (leb 7 (p % 8))
    (λ h. let last = leb-true 7 (p % 8) h in ends_far c d e (omega arith))
    (λ h q t.
    let inner = leb-false 7 (p % 8) h in
    let moved = sums 6 c q (subst (λ (k : ℕ). Toward k c q) e t) in
    one_brick q c (omega arith) (omega arith) (omega arith))

-- ---- bricks before that of the first

pub fits_left : (s p d wall : ℕ) → d ≡ 1 → wall ≡ s * s → IsBrickBeside s p d → p % 64 < 8 → 512 * wall ≤ p
fits_left s p d wall e f b h =
    let c = voxel_of s p in
    let digit = digit_x s p in
    let moved = sums 1 c b.there (subst (λ (k : ℕ). Toward k c b.there) e b.toward) in
    let fits = wall_fits s (c.x / 8) (c.y / 8) (c.z / 8) (p / 512) (omega arith) (sym (place_at s p)) in
    omega arith

pub fits_under : (s p d : ℕ) → d ≡ 3 → IsBrickBeside s p d → p % 512 < 64 → 512 * s ≤ p
fits_under s p d e b h =
    let c = voxel_of s p in
    let digit = digit_y s p in
    let moved = sums 3 c b.there (subst (λ (k : ℕ). Toward k c b.there) e b.toward) in
    let fits = row_fits s (c.x / 8) (c.y / 8) (c.z / 8) (p / 512) (omega arith) (sym (place_at s p)) in
    omega arith

pub fits_near : (s p d : ℕ) → d ≡ 5 → IsBrickBeside s p d → p % 8 < 1 → 512 ≤ p
fits_near s p d e b h =
    let c = voxel_of s p in
    let digit = digit_z s p in
    let moved = sums 5 c b.there (subst (λ (k : ℕ). Toward k c b.there) e b.toward) in
    let number = place_at s p in
    omega arith

-- ---- the index of the neighbor

pub next_left : (s p d wall next : ℕ) → d ≡ 1 → wall ≡ s * s → (8 ≤ p % 64 → next + 8 ≡ p)
    → (p % 64 < 8 → next + 512 * wall ≡ p + 56) → (q : Coord) → Toward d (voxel_of s p) q
    → IsInSpace s (brick q) → voxel_of s next ≡ q
unfolding offset_in_slot
next_left s p d wall next e f within over q t inside =
    let c = voxel_of s p in
    let moved = sums 1 c q (subst (λ (k : ℕ). Toward k c q) e t) in
    let number = place_at s p in
    let slot_offset = slot_offset_at s p in
    let digit = digit_x s p in
    elim (cases_lt (p % 64) 8) [
      | inl k ↦
          let next_is = over k in
          voxel_is s next q inside (same_place s (q.x / 8) (q.y / 8) (q.z / 8) (c.x / 8 - 1) (c.y / 8) (c.z / 8) (next / 512) (omega arith) (omega arith) (omega arith) (wall_before s (c.x / 8) (c.y / 8) (c.z / 8) (next / 512) (p / 512) (omega arith) (omega arith) (sym number))) (omega arith)
      | inr k ↦
          let next_is = within k in
          voxel_is s next q inside (same_place s (q.x / 8) (q.y / 8) (q.z / 8) (c.x / 8) (c.y / 8) (c.z / 8) (next / 512) (omega arith) (omega arith) (omega arith) (number ∙ omega arith)) (omega arith)
    ]

pub next_right : (s p d wall next : ℕ) → d ≡ 2 → wall ≡ s * s → (p % 64 < 56 → next ≡ p + 8)
    → (56 ≤ p % 64 → next + 56 ≡ p + 512 * wall) → (q : Coord) → Toward d (voxel_of s p) q
    → IsInSpace s (brick q) → voxel_of s next ≡ q
unfolding offset_in_slot
next_right s p d wall next e f within over q t inside =
    let c = voxel_of s p in
    let moved = sums 2 c q (subst (λ (k : ℕ). Toward k c q) e t) in
    let number = place_at s p in
    let slot_offset = slot_offset_at s p in
    let digit = digit_x s p in
    elim (cases_lt (p % 64) 56) [
      | inl k ↦
          let next_is = within k in
          voxel_is s next q inside (same_place s (q.x / 8) (q.y / 8) (q.z / 8) (c.x / 8) (c.y / 8) (c.z / 8) (next / 512) (omega arith) (omega arith) (omega arith) (number ∙ omega arith)) (omega arith)
      | inr k ↦
          let next_is = over k in
          voxel_is s next q inside (same_place s (q.x / 8) (q.y / 8) (q.z / 8) (c.x / 8 + 1) (c.y / 8) (c.z / 8) (next / 512) (omega arith) (omega arith) (omega arith) (wall_behind s (c.x / 8) (c.y / 8) (c.z / 8) (next / 512) (p / 512) (omega arith) (sym number))) (omega arith)
    ]

pub next_under : (s p d next : ℕ) → d ≡ 3 → (64 ≤ p % 512 → next + 64 ≡ p)
    → (p % 512 < 64 → next + 512 * s ≡ p + 448) → (q : Coord) → Toward d (voxel_of s p) q
    → IsInSpace s (brick q) → voxel_of s next ≡ q
unfolding offset_in_slot
next_under s p d next e within over q t inside =
    let c = voxel_of s p in
    let moved = sums 3 c q (subst (λ (k : ℕ). Toward k c q) e t) in
    let number = place_at s p in
    let slot_offset = slot_offset_at s p in
    let digit = digit_y s p in
    elim (cases_lt (p % 512) 64) [
      | inl k ↦
          let next_is = over k in
          voxel_is s next q inside (same_place s (q.x / 8) (q.y / 8) (q.z / 8) (c.x / 8) (c.y / 8 - 1) (c.z / 8) (next / 512) (omega arith) (omega arith) (omega arith) (row_before s (c.x / 8) (c.y / 8) (c.z / 8) (next / 512) (p / 512) (omega arith) (omega arith) (sym number))) (omega arith)
      | inr k ↦
          let next_is = within k in
          voxel_is s next q inside (same_place s (q.x / 8) (q.y / 8) (q.z / 8) (c.x / 8) (c.y / 8) (c.z / 8) (next / 512) (omega arith) (omega arith) (omega arith) (number ∙ omega arith)) (omega arith)
    ]

pub next_over : (s p d next : ℕ) → d ≡ 4 → (p % 512 < 448 → next ≡ p + 64)
    → (448 ≤ p % 512 → next + 448 ≡ p + 512 * s) → (q : Coord) → Toward d (voxel_of s p) q
    → IsInSpace s (brick q) → voxel_of s next ≡ q
unfolding offset_in_slot
next_over s p d next e within over q t inside =
    let c = voxel_of s p in
    let moved = sums 4 c q (subst (λ (k : ℕ). Toward k c q) e t) in
    let number = place_at s p in
    let slot_offset = slot_offset_at s p in
    let digit = digit_y s p in
    elim (cases_lt (p % 512) 448) [
      | inl k ↦
          let next_is = within k in
          voxel_is s next q inside (same_place s (q.x / 8) (q.y / 8) (q.z / 8) (c.x / 8) (c.y / 8) (c.z / 8) (next / 512) (omega arith) (omega arith) (omega arith) (number ∙ omega arith)) (omega arith)
      | inr k ↦
          let next_is = over k in
          voxel_is s next q inside (same_place s (q.x / 8) (q.y / 8) (q.z / 8) (c.x / 8) (c.y / 8 + 1) (c.z / 8) (next / 512) (omega arith) (omega arith) (omega arith) (row_behind s (c.x / 8) (c.y / 8) (c.z / 8) (next / 512) (p / 512) (omega arith) (sym number))) (omega arith)
    ]

pub next_near : (s p d next : ℕ) → d ≡ 5 → (1 ≤ p % 8 → next + 1 ≡ p)
    → (p % 8 < 1 → next + 512 ≡ p + 7) → (q : Coord) → Toward d (voxel_of s p) q
    → IsInSpace s (brick q) → voxel_of s next ≡ q
unfolding offset_in_slot
next_near s p d next e within over q t inside =
    let c = voxel_of s p in
    let moved = sums 5 c q (subst (λ (k : ℕ). Toward k c q) e t) in
    let number = place_at s p in
    let slot_offset = slot_offset_at s p in
    let digit = digit_z s p in
    elim (cases_lt (p % 8) 1) [
      | inl k ↦
          let next_is = over k in
          voxel_is s next q inside (same_place s (q.x / 8) (q.y / 8) (q.z / 8) (c.x / 8) (c.y / 8) (c.z / 8 - 1) (next / 512) (omega arith) (omega arith) (omega arith) (omega arith)) (omega arith)
      | inr k ↦
          let next_is = within k in
          voxel_is s next q inside (same_place s (q.x / 8) (q.y / 8) (q.z / 8) (c.x / 8) (c.y / 8) (c.z / 8) (next / 512) (omega arith) (omega arith) (omega arith) (number ∙ omega arith)) (omega arith)
    ]

pub next_far : (s p d next : ℕ) → d ≡ 6 → (p % 8 < 7 → next ≡ p + 1)
    → (7 ≤ p % 8 → next + 7 ≡ p + 512) → (q : Coord) → Toward d (voxel_of s p) q
    → IsInSpace s (brick q) → voxel_of s next ≡ q
unfolding offset_in_slot
next_far s p d next e within over q t inside =
    let c = voxel_of s p in
    let moved = sums 6 c q (subst (λ (k : ℕ). Toward k c q) e t) in
    let number = place_at s p in
    let slot_offset = slot_offset_at s p in
    let digit = digit_z s p in
    elim (cases_lt (p % 8) 7) [
      | inl k ↦
          let next_is = within k in
          voxel_is s next q inside (same_place s (q.x / 8) (q.y / 8) (q.z / 8) (c.x / 8) (c.y / 8) (c.z / 8) (next / 512) (omega arith) (omega arith) (omega arith) (number ∙ omega arith)) (omega arith)
      | inr k ↦
          let next_is = over k in
          voxel_is s next q inside (same_place s (q.x / 8) (q.y / 8) (q.z / 8) (c.x / 8) (c.y / 8) (c.z / 8 + 1) (next / 512) (omega arith) (omega arith) (omega arith) (omega arith)) (omega arith)
    ]
