-- The neighbors of a segment: the segments of the four rows around it, its own voxels moved by one, and the ends next
-- to it.
use Rattle.std.proofs.Common.{◌≡◌, ℕ, zero, suc, ◌+◌, ◌-◌, ◌*◌, ◌/◌, ◌%◌, ◌^◌, ◌<◌, ◌≤◌, refl, sym, ◌∙◌, ap, subst, arith, true, false, ◌==◌, bit_or, max, inl, inr}
use Rattle.std.specs.Prelude.{◌⊎◌}
use Rattle.std.specs.Int.{bit_at}
use Rattle.std.proofs.Math.Nat.{div-add-mod}
use Rattle.std.proofs.lemmas.Bool.{cases_lt}
use Rattle.std.proofs.lemmas.Bool.Decides.{nat_tests}
use Rattle.std.proofs.lemmas.Nat.{pow_pos}
use Rattle.std.proofs.lemmas.Nat.Bits.{bit_at-lt, bit_at_above, bit_at_cat_high, bit_at_cat_low, bit_at_or}
use Rattle.vox_geom.specs.declared.coordinate.Coord.{Coord}
use Rattle.vox_geom.specs.declared.TheConstants.{MOST_R}
use Rattle.vox_geom.specs.Space.{IsInSpace}
use Rattle.nano_spec.specs.Model.{bit}
use Rattle.model_file.specs.declared.flood.Stretch.{Stretch}
use Rattle.model_file.specs.Flood.{IsAmong, IsBeside, IsStart}
use Rattle.vox_geom.proofs.Adjacent.{Side, adjacent_by, side_of, right, above, ahead, left, below, behind}
use Rattle.vox_planes.proofs.Chunks.{shifted_bit}

-- ---- bits of moved words

-- 1 and 64 less, as the code computes them
abbrev pub one_less : ℕ → ℕ
one_less x = (x + 65535) % 65536

abbrev pub word_less : ℕ → ℕ
word_less z = (z + 65472) % 65536

-- a word moved by one bit either way
abbrev pub moved : ℕ → ℕ
moved bits = bit_or (bits * 2 ^ 1 % 2 ^ 64) (bits / 2 ^ 1)

raised_bit : (n s j : ℕ) → s ≤ j → j < 64 → bit_at (n * 2 ^ s % 2 ^ 64) j ≡ bit_at n (j - s)
raised_bit n s j l u =
    let split : n * 2 ^ s / 2 ^ 64 * 2 ^ 64 + n * 2 ^ s % 2 ^ 64 ≡ n * 2 ^ s = omega (arith, div-add-mod (n * 2 ^ s) (2 ^ 64)) in
    sym (bit_at_cat_low (n * 2 ^ s / 2 ^ 64) 64 (n * 2 ^ s % 2 ^ 64) j u)
    ∙ (ap (λ v. bit_at v j) (split ∙ (let product_is : n * 2 ^ s ≡ n * 2 ^ s + 0 = omega arith in product_is))
    ∙ bit_at_cat_high n s 0 j (pow_pos s) l)

low_zero : (n s j : ℕ) → j < s → s ≤ 64 → bit_at (n * 2 ^ s % 2 ^ 64) j ≡ 0
low_zero n s j l u =
    let split : n * 2 ^ s / 2 ^ 64 * 2 ^ 64 + n * 2 ^ s % 2 ^ 64 ≡ n * 2 ^ s = omega (arith, div-add-mod (n * 2 ^ s) (2 ^ 64)) in
    sym (bit_at_cat_low (n * 2 ^ s / 2 ^ 64) 64 (n * 2 ^ s % 2 ^ 64) j (omega arith))
    ∙ (ap (λ v. bit_at v j) (split ∙ (let product_is : n * 2 ^ s ≡ n * 2 ^ s + 0 = omega arith in product_is))
    ∙ (bit_at_cat_low n s 0 j l ∙ bit_at_above 0 0 j (omega arith) (omega arith)))

pub one_of : (d : ℕ) → (d == 1) ≡ true → d ≡ 1
one_of d h = grind (arith, nat_tests)

pub is_one : (d : ℕ) → d ≡ 1 → (d == 1) ≡ true
is_one d h = ap (λ v. v == 1) h

inside : (n k : ℕ) → n < 2 ^ 64 → bit n k ≡ true → k < 64
inside n k l h = by (cases_lt k 64)
  where
    by : ((k < 64) ⊎ (64 ≤ k)) → k < 64
    by (inl m) = m
    by (inr m) = let not_bit : bit n k ≡ false = ap (λ d. d == 1) (bit_at_above n 64 k l m) in cc

up : (n k : ℕ) → k + 1 < 64 → bit n k ≡ true → bit (moved n) (k + 1) ≡ true
up n k l h =
    let back : k + 1 - 1 ≡ k = omega arith in
    let raised : bit_at (n * 2 ^ 1 % 2 ^ 64) (k + 1) ≡ 1 = raised_bit n 1 (k + 1) (omega arith) l ∙ (ap (bit_at n) back ∙ one_of (bit_at n k) h) in
    let small = bit_at-lt (n / 2 ^ 1) (k + 1) in
    is_one (bit_at (moved n) (k + 1)) (bit_at_or (n * 2 ^ 1 % 2 ^ 64) (n / 2 ^ 1) (k + 1) ∙ omega arith)

down : (n k : ℕ) → bit n (k + 1) ≡ true → bit (moved n) k ≡ true
down n k h =
    let next : 1 + k ≡ k + 1 = omega arith in
    let lowered : bit_at (n / 2 ^ 1) k ≡ 1 = shifted_bit n 1 k ∙ (ap (bit_at n) next ∙ one_of (bit_at n (k + 1)) h) in
    let small = bit_at-lt (n * 2 ^ 1 % 2 ^ 64) k in
    is_one (bit_at (moved n) k) (bit_at_or (n * 2 ^ 1 % 2 ^ 64) (n / 2 ^ 1) k ∙ omega arith)

-- a bit of the moved word comes from one side or the other
from_side : (n k : ℕ) → k < 64 → n < 2 ^ 64 → bit (moved n) k ≡ true
    → ((1 ≤ k) × (bit n (k - 1) ≡ true)) ⊎ ((k + 1 < 64) × (bit n (k + 1) ≡ true))
from_side n k l fits h = by (cases (bit_at (n / 2 ^ 1) k) (bit_at-lt (n / 2 ^ 1) k))
  where
    cases : (d : ℕ) → d < 2 → (d ≡ 1) ⊎ (d ≡ 0)
    cases zero l = inr refl
    cases (suc zero) l = inl refl
    cases (suc (suc d)) l = absurd (omega arith)

    all : max (bit_at (n * 2 ^ 1 % 2 ^ 64) k) (bit_at (n / 2 ^ 1) k) ≡ 1
    all = sym (bit_at_or (n * 2 ^ 1 % 2 ^ 64) (n / 2 ^ 1) k) ∙ one_of (bit_at (moved n) k) h

    by : ((bit_at (n / 2 ^ 1) k ≡ 1) ⊎ (bit_at (n / 2 ^ 1) k ≡ 0))
        → ((1 ≤ k) × (bit n (k - 1) ≡ true)) ⊎ ((k + 1 < 64) × (bit n (k + 1) ≡ true))
    by (inl e) =
        let next : 1 + k ≡ k + 1 = omega arith in
        let bit_set : bit n (k + 1) ≡ true = is_one (bit_at n (k + 1)) (ap (bit_at n) (sym next) ∙ (sym (shifted_bit n 1 k) ∙ e)) in
        inr (inside n (k + 1) fits bit_set, bit_set)
    by (inr e) = at k l refl
      where
        raised : bit_at (n * 2 ^ 1 % 2 ^ 64) k ≡ 1
        raised = omega (arith, all)

        at : (j : ℕ) → j < 64 → j ≡ k → ((1 ≤ k) × (bit n (k - 1) ≡ true)) ⊎ ((k + 1 < 64) × (bit n (k + 1) ≡ true))
        at zero u s = let bit_is : bit_at (n * 2 ^ 1 % 2 ^ 64) k ≡ 0 = low_zero n 1 k (omega arith) (omega arith) in let one : bit_at (n * 2 ^ 1 % 2 ^ 64) k ≡ 1 = raised in absurd (omega arith)
        at (suc j) u s = inl (omega arith, is_one (bit_at n (k - 1)) (sym (raised_bit n 1 k (omega arith) l) ∙ raised))

-- ---- near coordinates

-- the gaps of two coordinates of one row
row_gap : (sx sy z dx dy dz : ℕ) → dx ≡ sx → dy ≡ sy → (z - dz) + (dz - z) ≡ 1
    → ((sx - dx) + (dx - sx)) + ((sy - dy) + (dy - sy)) + ((z - dz) + (dz - z)) ≡ 1
row_gap sx sy z dx dy dz ex ey g = (λ i. ((sx - ex i) + (ex i - sx)) + ((sy - ey i) + (ey i - sy)) + g i) ∙ (λ i. none sx i + none sy i + 1)
  where
    none : (v : ℕ) → (v - v) + (v - v) ≡ 0
    none v = omega arith

-- the gaps of two coordinates of one z
flat_gap : (sx sy x y dx dy z : ℕ) → dx ≡ x → dy ≡ y → ((sx - x) + (x - sx)) + ((sy - y) + (y - sy)) ≡ 1
    → ((sx - dx) + (dx - sx)) + ((sy - dy) + (dy - sy)) + ((z - z) + (z - z)) ≡ 1
flat_gap sx sy x y dx dy z ex ey g =
    let none : (z - z) + (z - z) ≡ 0 = omega arith in
    (λ i. ((sx - ex i) + (ex i - sx)) + ((sy - ey i) + (ey i - sy)) + none i) ∙ ap (λ n. n + 0) g

module _ (s : Stretch) (r : ℕ) (start : IsStart MOST_R s) (most : r ≤ MOST_R) (fits : s.bits < 2 ^ 64) where
  beside : (c d : Coord) → IsAmong s c
      → ((c.x - d.x) + (d.x - c.x)) + ((c.y - d.y) + (d.y - c.y)) + ((c.z - d.z) + (d.z - c.z)) ≡ 1 → IsBeside s d
  beside c d a g = record { one = c; among = a; adjacent = adjacent_by c d g }

  across : (x y : ℕ) (d : Coord) → IsAmong (record { first = record { x = x; y = y; z = s.first.z }; bits = s.bits }) d
      → ((s.first.x - x) + (x - s.first.x)) + ((s.first.y - y) + (y - s.first.y)) ≡ 1 → IsBeside s d
  across x y d a g =
      beside (record { x = s.first.x; y = s.first.y; z = d.z }) d (record { x = refl; y = refl; from = a.from; to = a.to; here = a.here }) (flat_gap s.first.x s.first.y x y d.x d.y d.z a.x a.y g)

  pub near_right : (d : Coord) → IsInSpace r d
      → IsAmong (record { first = record { x = s.first.x + 1; y = s.first.y; z = s.first.z }; bits = s.bits }) d
      → IsBeside s d
  near_right d i a = across (s.first.x + 1) s.first.y d a (omega arith)

  pub near_left : (d : Coord) → IsInSpace r d
      → IsAmong (record { first = record { x = one_less s.first.x; y = s.first.y; z = s.first.z }; bits = s.bits }) d
      → IsBeside s d
  near_left d i a =
      let below_most_r : s.first.x < MOST_R = (let within = start.within in within.x) in
      let along_x = a.x in
      let i_along_x = i.x in
      let one : s.first.x ≡ one_less s.first.x + 1 = omega arith in
      across (one_less s.first.x) s.first.y d a (omega arith)

  pub near_above : (d : Coord) → IsInSpace r d
      → IsAmong (record { first = record { x = s.first.x; y = s.first.y + 1; z = s.first.z }; bits = s.bits }) d
      → IsBeside s d
  near_above d i a = across s.first.x (s.first.y + 1) d a (omega arith)

  pub near_below : (d : Coord) → IsInSpace r d
      → IsAmong (record { first = record { x = s.first.x; y = one_less s.first.y; z = s.first.z }; bits = s.bits }) d
      → IsBeside s d
  near_below d i a =
      let below_most_r : s.first.y < MOST_R = (let within = start.within in within.y) in
      let along_y = a.y in
      let i_along_y = i.y in
      let one : s.first.y ≡ one_less s.first.y + 1 = omega arith in
      across s.first.x (one_less s.first.y) d a (omega arith)

  along : (z : ℕ) (d : Coord) → d.x ≡ s.first.x → d.y ≡ s.first.y → s.first.z ≤ z → z < s.first.z + 64
      → bit s.bits (z - s.first.z) ≡ true → (z - d.z) + (d.z - z) ≡ 1 → IsBeside s d
  along z d ex ey l u b g = beside (record { x = s.first.x; y = s.first.y; z = z }) d (record { x = refl; y = refl; from = l; to = u; here = b }) (row_gap s.first.x s.first.y z d.x d.y d.z ex ey g)

  pub near_moved : (d : Coord) → IsInSpace r d → IsAmong (record { first = s.first; bits = moved s.bits }) d
      → IsBeside s d
  near_moved d i a = by (from_side s.bits (d.z - s.first.z) (let from = a.from in let up_to = a.to in omega arith) fits a.here)
    where
      by : ((1 ≤ d.z - s.first.z) × (bit s.bits (d.z - s.first.z - 1) ≡ true))
          ⊎ ((d.z - s.first.z + 1 < 64) × (bit s.bits (d.z - s.first.z + 1) ≡ true)) → IsBeside s d
      by (inl h) =
          let from = a.from in
          let up_to = a.to in
          let l = h.0 in
          let difference_is : d.z - s.first.z - 1 ≡ d.z - 1 - s.first.z = omega arith in
          along (d.z - 1) d a.x a.y (omega arith) (omega arith) (ap (bit s.bits) (sym difference_is) ∙ h.1) (omega arith)
      by (inr h) =
          let from = a.from in
          let l = h.0 in
          let sum_is : d.z - s.first.z + 1 ≡ d.z + 1 - s.first.z = omega arith in
          along (d.z + 1) d a.x a.y (omega arith) (omega arith) (ap (bit s.bits) (sym sum_is) ∙ h.1) (omega arith)

  pub near_after : (d : Coord) → IsInSpace r d → IsAmong
      (record { first = record { x = s.first.x; y = s.first.y; z = s.first.z + 64 }; bits = s.bits / 2 ^ 63 }) d
      → IsBeside s d
  near_after d i a =
      let from = a.from in
      let difference : ℕ = d.z - (s.first.z + 64) in
      let bit_set : bit s.bits (63 + (d.z - (s.first.z + 64))) ≡ true = is_one (bit_at s.bits (63 + (d.z - (s.first.z + 64)))) (sym (shifted_bit s.bits 63 (d.z - (s.first.z + 64))) ∙ one_of (bit_at (s.bits / 2 ^ 63) (d.z - (s.first.z + 64))) a.here) in
      let z_below_64 : 63 + (d.z - (s.first.z + 64)) < 64 = inside s.bits (63 + (d.z - (s.first.z + 64))) fits bit_set in
      let sum_is : 63 + (d.z - (s.first.z + 64)) ≡ s.first.z + 63 - s.first.z = omega arith in
      along (s.first.z + 63) d a.x a.y (omega arith) (omega arith) (ap (bit s.bits) (sym sum_is) ∙ bit_set) (omega arith)

  pub near_before : (d : Coord) → IsInSpace r d → IsAmong (record
      { first = record { x = s.first.x; y = s.first.y; z = word_less s.first.z }; bits = s.bits * 2 ^ 63 % 2 ^ 64 }) d
      → IsBeside s d
  near_before d i a =
      let from = a.from in
      let up_to = a.to in
      let along_z = i.z in
      let below_most_r : s.first.z < MOST_R = (let within = start.within in within.z) in
      let z_is : s.first.z ≡ word_less s.first.z + 64 = omega arith in
      by (cases_lt (d.z - word_less s.first.z) 63) (omega arith) z_is
    where
      by : ((d.z - word_less s.first.z < 63) ⊎ (63 ≤ d.z - word_less s.first.z)) → d.z - word_less s.first.z < 64
          → s.first.z ≡ word_less s.first.z + 64 → IsBeside s d
      by (inl l) u w =
          let not_bit : bit (s.bits * 2 ^ 63 % 2 ^ 64) (d.z - word_less s.first.z) ≡ false = ap (λ v. v == 1) (low_zero s.bits 63 (d.z - word_less s.first.z) l (omega arith)) in
          let here = a.here in
          cc
      by (inr l) u w =
          let from = a.from in
          let difference_is : d.z - word_less s.first.z - 63 ≡ s.first.z - s.first.z = omega arith in
          let bit_set : bit s.bits (s.first.z - s.first.z) ≡ true = is_one (bit_at s.bits (s.first.z - s.first.z)) (ap (bit_at s.bits) (sym difference_is) ∙ (sym (raised_bit s.bits 63 (d.z - word_less s.first.z) l u) ∙ one_of (bit_at (s.bits * 2 ^ 63 % 2 ^ 64) (d.z - word_less s.first.z)) a.here)) in
          along s.first.z d a.x a.y (omega arith) (omega arith) bit_set (omega arith)

  -- a property of all seven segments is one of each coordinate next to the segment
  pub of_seven : (P : Coord → Type 0) → ((d : Coord)
      → IsAmong (record { first = record { x = s.first.x + 1; y = s.first.y; z = s.first.z }; bits = s.bits }) d → P d)
      → ((d : Coord)
      → IsAmong (record { first = record { x = one_less s.first.x; y = s.first.y; z = s.first.z }; bits = s.bits }) d
      → P d) → ((d : Coord)
      → IsAmong (record { first = record { x = s.first.x; y = s.first.y + 1; z = s.first.z }; bits = s.bits }) d → P d)
      → ((d : Coord)
      → IsAmong (record { first = record { x = s.first.x; y = one_less s.first.y; z = s.first.z }; bits = s.bits }) d
      → P d) → ((d : Coord) → IsAmong (record { first = s.first; bits = moved s.bits }) d → P d) → ((d : Coord)
      → IsAmong (record { first = record { x = s.first.x; y = s.first.y; z = s.first.z + 64 }; bits = s.bits / 2 ^ 63 })
      d → P d) → ((d : Coord) → IsAmong (record
      { first = record { x = s.first.x; y = s.first.y; z = word_less s.first.z }; bits = s.bits * 2 ^ 63 % 2 ^ 64 }) d
      → P d) → (d : Coord) → IsBeside s d → P d
  of_seven P p1 p2 p3 p4 p5 p6 p7 d h = by (side_of h.one d h.adjacent)
    where
      c : Coord
      c = h.one

      w : IsInSpace MOST_R s.first
      w = start.within

      by : Side h.one d → P d
      by (right x y z) = (let among = h.among in p1 d (record { x = x ∙ ap (λ v. v + 1) among.x; y = y ∙ among.y; from = subst (λ (v : ℕ). s.first.z ≤ v) (sym z) among.from; to = subst (λ (v : ℕ). v < s.first.z + 64) (sym z) among.to; here = ap (λ v. bit s.bits (v - s.first.z)) z ∙ among.here }))
      by (left x y z) = (let among = h.among in let among_along_x = among.x in let along_x = w.x in p2 d (record { x = omega arith; y = y ∙ among.y; from = subst (λ (v : ℕ). s.first.z ≤ v) (sym z) among.from; to = subst (λ (v : ℕ). v < s.first.z + 64) (sym z) among.to; here = ap (λ v. bit s.bits (v - s.first.z)) z ∙ among.here }))
      by (above x y z) = (let among = h.among in p3 d (record { x = x ∙ among.x; y = y ∙ ap (λ v. v + 1) among.y; from = subst (λ (v : ℕ). s.first.z ≤ v) (sym z) among.from; to = subst (λ (v : ℕ). v < s.first.z + 64) (sym z) among.to; here = ap (λ v. bit s.bits (v - s.first.z)) z ∙ among.here }))
      by (below x y z) = (let among = h.among in let among_along_y = among.y in let along_y = w.y in p4 d (record { x = x ∙ among.x; y = omega arith; from = subst (λ (v : ℕ). s.first.z ≤ v) (sym z) among.from; to = subst (λ (v : ℕ). v < s.first.z + 64) (sym z) among.to; here = ap (λ v. bit s.bits (v - s.first.z)) z ∙ among.here }))
      by (ahead x y z) = next x y z (cases_lt (h.one.z - s.first.z + 1) 64)
        where
          next : d.x ≡ h.one.x → d.y ≡ h.one.y → d.z ≡ h.one.z + 1
              → ((h.one.z - s.first.z + 1 < 64) ⊎ (64 ≤ h.one.z - s.first.z + 1)) → P d
          next x y z (inl l) =
              let among = h.among in
              let among_from = among.from in
              let difference_is : d.z - s.first.z ≡ h.one.z - s.first.z + 1 = omega arith in
              p5 d (record { x = x ∙ among.x; y = y ∙ among.y; from = omega arith; to = omega arith; here = ap (bit (moved s.bits)) difference_is ∙ up s.bits (h.one.z - s.first.z) l among.here })
          next x y z (inr l) =
              let among = h.among in
              let among_from = among.from in
              let among_to = among.to in
              let difference_is_here : h.one.z - s.first.z ≡ 63 + 0 = omega arith in
              let difference_is : d.z - (s.first.z + 64) ≡ 0 = omega arith in
              p6 d (record {
                x = x ∙ among.x;
                y = y ∙ among.y;
                from = omega arith;
                to = omega arith;
                here = ap (bit (s.bits / 2 ^ 63)) difference_is ∙ is_one (bit_at (s.bits / 2 ^ 63) 0) (shifted_bit s.bits 63 0 ∙ (ap (bit_at s.bits) (sym difference_is_here) ∙ one_of (bit_at s.bits (h.one.z - s.first.z)) among.here));
              })
      by (behind x y z) = last x y z (cases_lt 0 (h.one.z - s.first.z))
        where
          last : d.x ≡ h.one.x → d.y ≡ h.one.y → h.one.z ≡ d.z + 1
              → ((0 < h.one.z - s.first.z) ⊎ (h.one.z - s.first.z ≤ 0)) → P d
          last x y z (inl l) =
              let among = h.among in
              let among_to = among.to in
              let difference_is : h.one.z - s.first.z ≡ d.z - s.first.z + 1 = omega arith in
              p5 d (record { x = x ∙ among.x; y = y ∙ among.y; from = omega arith; to = omega arith; here = down s.bits (d.z - s.first.z) (ap (bit s.bits) (sym difference_is) ∙ among.here) })
          last x y z (inr l) =
              let among = h.among in
              let among_from = among.from in
              let each = start.each in
              let along_z = w.z in
              let same_difference : h.one.z - s.first.z ≡ 63 - 63 = omega arith in
              let less : s.first.z ≡ word_less s.first.z + 64 = omega arith in
              let difference_is : d.z - word_less s.first.z ≡ 63 = omega arith in
              p7 d (record {
                x = x ∙ among.x;
                y = y ∙ among.y;
                from = omega arith;
                to = omega arith;
                here = ap (bit (s.bits * 2 ^ 63 % 2 ^ 64)) difference_is ∙ is_one (bit_at (s.bits * 2 ^ 63 % 2 ^ 64) 63) (raised_bit s.bits 63 63 (omega arith) (omega arith) ∙ (ap (bit_at s.bits) (sym same_difference) ∙ one_of (bit_at s.bits (h.one.z - s.first.z)) among.here));
              })
