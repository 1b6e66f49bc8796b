-- Full voxels above full ones, word by word.
use Rattle.std.proofs.Common.{◌≡◌, ℕ, zero, suc, ◌+◌, ◌-◌, ◌*◌, ◌/◌, ◌%◌, ◌^◌, ◌<◌, ◌≤◌, sym, ◌∙◌, ap, arith, true, false, ◌==◌, List, get_or, bit_and, min, inl, inr}
use Rattle.std.specs.Prelude.{IsTrue, ◌⊎◌}
use Rattle.std.specs.Int.{bit_at, bit_not, trailing_zeros, w64}
use Rattle.std.specs.Int.Bits.{and_lt}
use Rattle.std.proofs.Math.Nat.{div-lt_iff_lt-mul, mod-lt, mul-le-mul_right, suc-mul}
use Rattle.std.proofs.lemmas.Nat.{div-add-mod'}
use Rattle.std.proofs.lemmas.Bool.{cases_lt}
use Rattle.std.proofs.lemmas.Bool.Decides.{nat_tests}
use Rattle.std.proofs.lemmas.Nat.Bits.{bit_at-lt, bit_at-zero, bit_at_and, bit_at_not, bit_at-trailing_zeros}
use Rattle.vox_geom.specs.declared.coordinate.Coord.{Coord}
use Rattle.vox_geom.specs.Space.{IsInSpace, in_space}
use Rattle.vox_geom.specs.Point.{below as under, point}
use Rattle.vox_geom.proofs.Truths.{first_of_two}
use Rattle.vox_geom.proofs.Points.{space_by_test}
use Rattle.nano_spec.specs.Matrix.{is_full}
use Rattle.nano_spec.specs.Model.{bit}
use Rattle.vox_planes.specs.Heap.{HasNoOverhangs}
use Rattle.vox_planes.specs.Layers.{IsLayered, bit_index, is_set, layer_words, layered}
use Rattle.vox_planes.proofs.Bits.{in_layer}
use Rattle.vox_planes.proofs.Voxels.{is_full-layered}

-- each bit that is 1, above the lowest words and before an end, has a bit 1 one layer before it
pub record AreHeld (ws : List ℕ) (layer end : ℕ) : Type 0 where
  pub held : (j : ℕ) → layer * 64 ≤ j → j < end * 64 → is_set ws j ≡ true → is_set ws (j - layer * 64) ≡ true

-- ---- one word

kept_value : (a b : ℕ) → b < 2 → min a (1 - b) ≡ 0 → (a == 1) ≡ true → b ≡ 1
kept_value a b l e h = grind (arith, nat_tests)

kept_bit : (w u k : ℕ) → u < 2 ^ 64 → k < 64 → bit_and w (bit_not w64 u) ≡ 0 → bit w k ≡ true → bit u k ≡ true
kept_bit w u k fits l e h =
    let none : min (bit_at w k) (1 - bit_at u k) ≡ 0 =
    ap (min (bit_at w k)) (sym (bit_at_not w64 u k fits l)) ∙ (sym (bit_at_and w (bit_not w64 u) k) ∙ (ap (λ n. bit_at n k) e ∙ bit_at-zero k)) in
    ap (λ d. d == 1) (kept_value (bit_at w k) (bit_at u k) (bit_at-lt u k) none h)

-- a bit that is 1 in one word and 0 in the other
lost_value : (a b : ℕ) → a < 2 → min a (1 - b) ≡ 1 → (a ≡ 1) × (b ≡ 0)
lost_value a b l e = (omega arith, omega arith)

lost_bit : (w u : ℕ) → w < 2 ^ 64 → u < 2 ^ 64 → 0 < bit_and w (bit_not w64 u)
    → (k : ℕ) × (k < 64) × (bit w k ≡ true) × (bit u k ≡ false)
lost_bit w u fits small some =
    let k : ℕ = trailing_zeros w64 (bit_and w (bit_not w64 u)) in
    let lowest_bit = bit_at-trailing_zeros w64 (bit_and w (bit_not w64 u)) some (and_lt 64 w (bit_not w64 u) fits (omega arith)) in
    let other : 1 - bit_at u k ≡ bit_at (bit_not w64 u) k = sym (bit_at_not w64 u k small lowest_bit.0) in
    let both : min (bit_at w k) (1 - bit_at u k) ≡ 1 = ap (min (bit_at w k)) other ∙ (sym (bit_at_and w (bit_not w64 u) k) ∙ lowest_bit.1) in
    let values = lost_value (bit_at w k) (bit_at u k) (bit_at-lt w k) both in
    (k, lowest_bit.0, ap (λ d. d == 1) values.0, ap (λ d. d == 1) values.1)

pub word_bit : (ws : List ℕ) (i k : ℕ) → k < 64 → is_set ws (i * 64 + k) ≡ bit (get_or ws i 0) k
unfolding is_set
word_bit ws i k l =
    let quotient_is : (i * 64 + k) / 64 ≡ i = omega arith in
    let remainder_is : (i * 64 + k) % 64 ≡ k = omega arith in
    λ t. bit (get_or ws (quotient_is t) 0) (remainder_is t)

-- a word above the lowest layer, and the word under it
pub record AreStacked (ws : List ℕ) (layer i w u : ℕ) : Type 0 where
  pub above : layer ≤ i
  pub upper : w ≡ get_or ws i 0
  pub lower : u ≡ get_or ws (i - layer) 0
  pub fits : w < 2 ^ 64
  pub lower_fits : u < 2 ^ 64

module _ (ws : List ℕ) (layer : ℕ) where
  pub held_none : AreHeld ws layer layer
  held_none = record { held = λ j from to. absurd (omega arith) }

  pub held_more : (i w u : ℕ) → AreStacked ws layer i w u → bit_and w (bit_not w64 u) ≡ 0 → AreHeld ws layer i
      → AreHeld ws layer (i + 1)
  held_more i w u s none a = record { held = λ j low high h. by j low high h (cases_lt j (i * 64)) }
    where
      by : (j : ℕ) → layer * 64 ≤ j → j < (i + 1) * 64 → is_set ws j ≡ true → ((j < i * 64) ⊎ (i * 64 ≤ j))
          → is_set ws (j - layer * 64) ≡ true
      by j low high h (inl l) = a.held j low l h
      by j low high h (inr l) =
          let difference : ℕ = j - i * 64 in
          let few : j - i * 64 < 64 = omega arith in
          let above : layer ≤ i = s.above in
          let here : i * 64 + (j - i * 64) ≡ j = omega arith in
          let there : j - layer * 64 ≡ (i - layer) * 64 + (j - i * 64) = omega arith in
          let one : bit w difference ≡ true = ap (λ v. bit v difference) s.upper ∙ (sym (word_bit ws i difference few) ∙ (ap (is_set ws) here ∙ h)) in
          ap (is_set ws) there
          ∙ (word_bit ws (i - layer) difference few ∙ (ap (λ v. bit v difference) (sym s.lower) ∙ kept_bit w u difference s.lower_fits few none one))

-- ---- all words

pub one_down : (y n : ℕ) → 0 < y → y * n ≡ (y - 1) * n + n
one_down zero n l = absurd (omega arith)
one_down (suc y) n l = let less : suc y - 1 ≡ y = omega arith in suc-mul y n ∙ ap (λ v. v * n + n) (sym less)

-- the bit of the coordinate under one
bit_under : (r : ℕ) (c : Coord) → 0 < c.y → bit_index r c - layer_words r * 64 ≡ bit_index r (under c)
bit_under r c l = let down : c.y * layer_words r ≡ (c.y - 1) * layer_words r + layer_words r = one_down c.y (layer_words r) l in omega arith

pub has_no_overhangs-held : (r : ℕ) (ws : List ℕ) (layer end : ℕ) → layer ≡ layer_words r → r * layer_words r ≤ end
    → AreHeld ws layer end → HasNoOverhangs (layered r ws)
has_no_overhangs-held r ws layer end size all a = λ c h. by c h (cases_lt 0 c.y)
  where
    by : (c : Coord) → IsTrue (is_full (layered r ws) c) → ((0 < c.y) ⊎ (c.y ≤ 0))
        → (c.y ≡ 0) ⊎ IsTrue (is_full (layered r ws) (under c))
    by c h (inr l) = inl (omega arith)
    by c h (inl l) =
        let within : IsInSpace r c = space_by_test r c (first_of_two (in_space r (point c)) _ h) in
        let below : IsInSpace r (under c) = record { x = within.x; y = (let within_y = within.y in omega arith); z = within.z } in
        let here : is_set ws (bit_index r c) ≡ true = sym (is_full-layered r ws c within) ∙ h in
        let row = in_layer r c within in
        let down : c.y * layer_words r ≡ (c.y - 1) * layer_words r + layer_words r = one_down c.y (layer_words r) l in
        let most : (c.y + 1) * layer_words r ≤ r * layer_words r = mul-le-mul_right (layer_words r) (let within_y = within.y in omega arith) in
        let place : bit_index r c - layer * 64 ≡ bit_index r (under c) = omega (arith, bit_under r c l) in
        inr (is_full-layered r ws (under c) below ∙ (ap (is_set ws) (sym place) ∙ a.held (bit_index r c) (omega arith) (omega arith) here))

has_some : (a b i : ℕ) → i < a * b → 0 < b
has_some a zero i l = absurd (omega arith)
has_some a (suc b) i l = omega arith

not_first : (q n m i : ℕ) → q * n + m ≡ i → m < n → n ≤ i → 0 < q
not_first zero n m i e l h = absurd (omega arith)
not_first (suc q) n m i e l h = omega arith

-- the voxel of a layer by the index of its bit in the layer
abbrev voxel : ℕ → ℕ → ℕ → Coord
voxel r y at = record { x = at / r; y = y; z = at % r }

module _ (r : ℕ) (ws : List ℕ) (h : IsLayered r ws) (heap : HasNoOverhangs (layered r ws)) where
  -- a bit above the floor that is 1 has a bit below it that is 1
  held_in_heap : (y at j : ℕ) → 0 < y → y < r → at < layer_words r * 64 → y * layer_words r * 64 + at ≡ j
      → is_set ws j ≡ true → is_set ws (j - layer_words r * 64) ≡ true
  held_in_heap y at j low high end is_j one = by (heap (voxel r y at) (is_full-layered r ws (voxel r y at) within ∙ (ap (is_set ws) place ∙ one)))
    where
      used : at < r * r
      used = by (cases_lt at (r * r))
        where
          by : ((at < r * r) ⊎ (r * r ≤ at)) → at < r * r
          by (inl l) = l
          by (inr l) = let none = h.unused y at high l end in let is_set_is = ap (is_set ws) is_j in cc

      some : 0 < r
      some = omega (arith, h.some)

      within : IsInSpace r (voxel r y at)
      within = record { x = (div-lt_iff_lt-mul some).1 used; y = high; z = mod-lt at some }

      below : IsInSpace r (under (voxel r y at))
      below = record { x = (div-lt_iff_lt-mul some).1 used; y = omega arith; z = mod-lt at some }

      place : bit_index r (voxel r y at) ≡ j
      place = ap (λ v. y * layer_words r * 64 + v) (div-add-mod' at r) ∙ is_j

      by : ((y ≡ 0) ⊎ IsTrue (is_full (layered r ws) (under (voxel r y at))))
          → is_set ws (j - layer_words r * 64) ≡ true
      by (inl floor) = absurd (omega arith)
      by (inr f) =
          ap (λ v. is_set ws (v - layer_words r * 64)) (sym place)
          ∙ (ap (is_set ws) (bit_under r (voxel r y at) low) ∙ (sym (is_full-layered r ws (under (voxel r y at)) below) ∙ f))

  -- no word has a bit that the word below it lacks
  pub none_lost : (layer i w u : ℕ) → layer ≡ layer_words r → i < r * layer_words r → AreStacked ws layer i w u
      → 0 < bit_and w (bit_not w64 u) → ⊥
  none_lost layer i w u size high s some =
      let lost = lost_bit w u s.fits s.lower_fits some in
      let k : ℕ = lost.0 in
      let k_below_64 : k < 64 = lost.1 in
      let n : ℕ = layer_words r in
      let above : layer ≤ i = s.above in
      let back : i / n * n + i % n ≡ i = div-add-mod' i n in
      let positive : 0 < n = has_some r n i high in
      let end : i % n < n = mod-lt i positive in
      let low : 0 < i / n = not_first (i / n) n (i % n) i back end (omega arith) in
      let place : i / n * n * 64 + (i % n * 64 + k) ≡ i * 64 + k = omega arith in
      let there : i * 64 + k - n * 64 ≡ (i - layer) * 64 + k = omega arith in
      let one : is_set ws (i * 64 + k) ≡ true = word_bit ws i k k_below_64 ∙ (ap (λ v. bit v k) (sym s.upper) ∙ lost.2) in
      let held = held_in_heap (i / n) (i % n * 64 + k) (i * 64 + k) low ((div-lt_iff_lt-mul positive).1 high) (omega arith) place one in
      let none : is_set ws (i * 64 + k - n * 64) ≡ false = ap (is_set ws) there ∙ (word_bit ws (i - layer) k k_below_64 ∙ (ap (λ v. bit v k) (sym s.lower) ∙ lost.3)) in
      cc
