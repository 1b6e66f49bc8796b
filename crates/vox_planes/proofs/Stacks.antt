-- Supported columns are voided, word by word.
use Rattle.std.proofs.Common.{◌≡◌, ℕ, zero, suc, ◌+◌, ◌-◌, ◌*◌, ◌/◌, ◌%◌, ◌^◌, ◌<◌, ◌≤◌, refl, sym, ◌∙◌, ap, arith, Bool, true, false, not, ◌&&◌, ◌||◌, ◌==◌, List, length, get_or, set, bit_and, inl, inr}
use Rattle.std.specs.Prelude.{◌⊎◌, nat_lt}
use Rattle.std.specs.Int.{bit_not, w64}
use Rattle.std.proofs.Math.Nat.{mul-le-mul_right}
use Rattle.std.proofs.lemmas.Bool.{cases_lt}
use Rattle.std.proofs.lemmas.List.{get_or-set_same, get_or-set_other}
use Rattle.std.proofs.lemmas.Nat.Bits.{bit_at_ones}
use Rattle.vox_geom.specs.declared.coordinate.Coord.{Coord}
use Rattle.vox_geom.specs.Point.{point}
use Rattle.vox_geom.specs.Space.{IsInSpace, in_space, place}
use Rattle.vox_geom.proofs.Truths.{second_of_two}
use Rattle.vox_geom.proofs.Tests.{test_less, test_not_less}
use Rattle.vox_geom.proofs.Points.{space_by_test}
use Rattle.nano_spec.specs.Matrix.{Matrix, is_full}
use Rattle.nano_spec.specs.Model.{bit}
use Rattle.vox_planes.specs.Heap.{goes, is_full_up_to, is_stacked}
use Rattle.vox_planes.specs.Layers.{IsLayered, bit_index, is_set, layer_words, layered}
use Rattle.vox_planes.proofs.Bits.{in_layer}
use Rattle.vox_planes.proofs.Heaps.{one_down, word_bit}
use Rattle.vox_planes.proofs.TakenBits.{and_bit, not_bit}
use Rattle.vox_planes.proofs.Voxels.{is_full-layered}

-- ---- one word

pub going_low : (full left : List ℕ) (layer i : ℕ) → i < layer → (k : ℕ) → k < 64
    → bit (2 ^ 64 - 1) k ≡ goes full left layer (i * 64 + k)
going_low full left layer i h k l =
    ap (λ d. d == 1) (bit_at_ones 64 k l)
    ∙ sym (ap (λ b. b || (is_set full (i * 64 + k - layer * 64) && not (is_set left (i * 64 + k - layer * 64)))) (test_less (i * 64 + k) (layer * 64) (omega arith)))

pub going_high : (full left : List ℕ) (layer i u v : ℕ) → layer ≤ i → u ≡ get_or full (i - layer) 0
    → v ≡ get_or left (i - layer) 0 → v < 2 ^ 64 → (k : ℕ) → k < 64
    → bit (bit_and u (bit_not w64 v)) k ≡ goes full left layer (i * 64 + k)
going_high full left layer i u v h eu ev fits k l =
    let under : (i - layer) * 64 + k ≡ i * 64 + k - layer * 64 = omega arith in
    let one : bit u k ≡ is_set full (i * 64 + k - layer * 64) = ap (λ w. bit w k) eu ∙ (sym (word_bit full (i - layer) k l) ∙ ap (is_set full) under) in
    let two : bit v k ≡ is_set left (i * 64 + k - layer * 64) = ap (λ w. bit w k) ev ∙ (sym (word_bit left (i - layer) k l) ∙ ap (is_set left) under) in
    and_bit u (bit_not w64 v) k
    ∙ (ap (λ b. bit u k && b) (not_bit v k fits l)
    ∙ ((λ t. one t && not (two t))
    ∙ sym (ap (λ b. b || (is_set full (i * 64 + k - layer * 64) && not (is_set left (i * 64 + k - layer * 64)))) (test_not_less (i * 64 + k) (layer * 64) (omega arith)))))

-- ---- the words below an index

-- below an end the cleared bits are 0, and from there on all are as they were
pub record AreDropped (old now full : List ℕ) (layer end : ℕ) : Type 0 where
  pub done : (j : ℕ) → j < end * 64 → is_set now j ≡ (is_set old j && not (goes full now layer j))
  pub rest : (j : ℕ) → end * 64 ≤ j → is_set now j ≡ is_set old j

pub dropped_none : (old full : List ℕ) (layer : ℕ) → AreDropped old old full layer 0
dropped_none old full layer = record { done = λ j l. absurd (omega arith); rest = λ j l. refl }

pub kept_word : (w gone : ℕ) → gone < 2 ^ 64 → (k : ℕ) → k < 64
    → bit (bit_and w (bit_not w64 gone)) k ≡ (bit w k && not (bit gone k))
kept_word w gone fits k l = and_bit w (bit_not w64 gone) k ∙ ap (λ b. bit w k && b) (not_bit gone k fits l)

set_word : (ws : List ℕ) (i v k : ℕ) → i < length ws → k < 64 → is_set (set ws i v) (i * 64 + k) ≡ bit v k
set_word ws i v k h l = word_bit (set ws i v) i k l ∙ ap (λ w. bit w k) (get_or-set_same ws i v 0 h)

set_other : (ws : List ℕ) (i v j : ℕ) → (j / 64 ≡ i → ⊥) → is_set (set ws i v) j ≡ is_set ws j
unfolding is_set
set_other ws i v j n = ap (λ w. bit w (j % 64)) (get_or-set_other ws i (j / 64) v 0 n)

goes_same : (full a b : List ℕ) (layer j : ℕ) → (layer * 64 ≤ j → is_set b (j - layer * 64) ≡ is_set a (j - layer * 64))
    → goes full b layer j ≡ goes full a layer j
goes_same full a b layer j h = by (cases_lt j (layer * 64))
  where
    by : ((j < layer * 64) ⊎ (layer * 64 ≤ j)) → goes full b layer j ≡ goes full a layer j
    by (inl l) =
        ap (λ t. t || (is_set full (j - layer * 64) && not (is_set b (j - layer * 64)))) (test_less j (layer * 64) l)
        ∙ sym (ap (λ t. t || (is_set full (j - layer * 64) && not (is_set a (j - layer * 64)))) (test_less j (layer * 64) l))
    by (inr l) = ap (λ t. nat_lt j (layer * 64) || (is_set full (j - layer * 64) && not t)) (h l)

pub dropped_more : (old now full : List ℕ) (layer i v : ℕ) → 1 ≤ layer → i < length now
    → ((k : ℕ) → k < 64 → bit v k ≡ (bit (get_or now i 0) k && not (goes full now layer (i * 64 + k))))
    → AreDropped old now full layer i → AreDropped old (set now i v) full layer (i + 1)
dropped_more old now full layer i v some within bits h = record {
  done = λ j l. by j l (cases_lt j (i * 64));
  rest = λ j l. set_other now i v j (λ e. omega arith) ∙ h.rest j (omega arith);
}
  where
    goes_on : (j : ℕ) → j < (i + 1) * 64 → goes full (set now i v) layer j ≡ goes full now layer j
    goes_on j l = goes_same full now (set now i v) layer j (λ m. set_other now i v (j - layer * 64) (λ e. omega arith))

    by : (j : ℕ) → j < (i + 1) * 64 → ((j < i * 64) ⊎ (i * 64 ≤ j))
        → is_set (set now i v) j ≡ (is_set old j && not (goes full (set now i v) layer j))
    by j l (inl m) = set_other now i v j (λ e. omega arith) ∙ (h.done j m ∙ ap (λ b. is_set old j && not b) (sym (goes_on j l)))
    by j l (inr m) =
        let sum_is : i * 64 + (j - i * 64) ≡ j = omega arith in
        let few : j - i * 64 < 64 = omega arith in
        ap (is_set (set now i v)) (sym sum_is)
        ∙ (set_word now i v (j - i * 64) within few
        ∙ (bits (j - i * 64) few
        ∙ ((λ t. (sym (word_bit now i (j - i * 64) few) ∙ (ap (is_set now) sum_is ∙ h.rest j m)) t && not (goes full now layer (sum_is t)))
        ∙ ap (λ b. is_set old j && not b) (sym (goes_on j l)))))

-- ---- all words

-- the voxel of a column at a height
abbrev level : Coord → ℕ → Coord
level c y = record { x = c.x; y = y; z = c.z }

-- a voxel is voided if and only if all from it down to the floor are full
gone_over : (full under stacked : Bool) → (stacked ≡ true → under ≡ true)
    → (full && not (false || (under && not (under && not stacked)))) ≡ (full && not (stacked && full))
gone_over true true true h = refl
gone_over true true false h = refl
gone_over true false true h = let e = h refl in cc
gone_over true false false h = refl
gone_over false true true h = refl
gone_over false true false h = refl
gone_over false false true h = refl
gone_over false false false h = refl

gone_low : (full : Bool) → (full && not true) ≡ (full && not full)
gone_low true = refl
gone_low false = refl

top : (m : Matrix) (c : Coord) (y : ℕ) → is_full_up_to m c y ≡ true → is_full m (level c y) ≡ true
top m c zero h = h
top m c (suc y) h = second_of_two (is_full_up_to m c y) (is_full m (level c (suc y))) h

module _ (r : ℕ) (old now full : List ℕ) (layered_is : IsLayered r full) (copy : layered r old ≡ layered r full)
    (dropped : (j : ℕ) → j < length full * 64 → is_set now j ≡ (is_set old j && not (goes full now (layer_words r) j))) where
  within_words : (c : Coord) → IsInSpace r c → bit_index r c < length full * 64
  within_words c i =
      let row = in_layer r c i in
      let most : (c.y + 1) * layer_words r ≤ r * layer_words r = mul-le-mul_right (layer_words r) (let along_y = i.y in omega arith) in
      let all = layered_is.whole in
      omega arith

  was : (c : Coord) → IsInSpace r c → is_set old (bit_index r c) ≡ is_full (layered r full) c
  was c i = sym (is_full-layered r old c i) ∙ ap (λ (m : Matrix). is_full m c) copy

  column : (c : Coord) (y : ℕ) → IsInSpace r (level c y) → is_set now (bit_index r (level c y))
      ≡ (is_full (layered r full) (level c y) && not (is_full_up_to (layered r full) c y))
  column c zero i =
      let row = in_layer r (level c zero) i in
      dropped (bit_index r (level c zero)) (within_words (level c zero) i)
      ∙ ((λ t. was (level c zero) i t
      && not (test_less (bit_index r (level c zero)) (layer_words r * 64) (omega arith) t
      || (is_set full (bit_index r (level c zero) - layer_words r * 64) && not (is_set now (bit_index r (level c zero) - layer_words r * 64)))))
      ∙ gone_low (is_full (layered r full) (level c zero)))
  column c (suc y) i =
      let lower : IsInSpace r (level c y) = record { x = i.x; y = (let along_y = i.y in omega arith); z = i.z } in
      let down : suc y * layer_words r ≡ (suc y - 1) * layer_words r + layer_words r = one_down (suc y) (layer_words r) (omega arith) in
      let less : suc y - 1 ≡ y = omega arith in
      let again : (suc y - 1) * layer_words r ≡ y * layer_words r = ap (λ k. k * layer_words r) less in
      let under : bit_index r (level c (suc y)) - layer_words r * 64 ≡ bit_index r (level c y) = omega arith in
      let above : layer_words r * 64 ≤ bit_index r (level c (suc y)) = omega arith in
      dropped (bit_index r (level c (suc y))) (within_words (level c (suc y)) i)
      ∙ ((λ t. was (level c (suc y)) i t
      && not (test_not_less (bit_index r (level c (suc y))) (layer_words r * 64) above t
      || ((ap (is_set full) under ∙ sym (is_full-layered r full (level c y) lower)) t && not ((ap (is_set now) under ∙ column c y lower) t))))
      ∙ gone_over (is_full (layered r full) (level c (suc y))) (is_full (layered r full) (level c y)) (is_full_up_to (layered r full) c y) (top (layered r full) c y))

  pub stacked_go : (c : Coord)
      → is_full (layered r now) c ≡ (is_full (layered r full) c && not (is_stacked (layered r full) c))
  stacked_go c = by (in_space r (point c)) refl
    where
      none : (ws : List ℕ) → in_space r (point c) ≡ false → is_full (layered r ws) c ≡ false
      none ws s = ap (λ t. t && get_or (layered r ws).voxels (place r c) false) s

      by : (s : Bool) → in_space r (point c) ≡ s
          → is_full (layered r now) c ≡ (is_full (layered r full) c && not (is_stacked (layered r full) c))
      by false s = none now s ∙ sym (ap (λ b. b && not (is_stacked (layered r full) c)) (none full s))
      by true s =
          let is_in_space : IsInSpace r c = space_by_test r c s in
          is_full-layered r now c is_in_space ∙ column c c.y is_in_space

  pub stacked_layered : length now ≡ length full
      → ((y i : ℕ) → y < r → r * r ≤ i → i < layer_words r * 64 → is_set old (y * layer_words r * 64 + i) ≡ false)
      → IsLayered r now
  stacked_layered same unused = record {
    some = layered_is.some;
    most = layered_is.most;
    whole = same ∙ layered_is.whole;
    unused = λ y i l m n.
        let most : (y + 1) * layer_words r ≤ r * layer_words r = mul-le-mul_right (layer_words r) (omega arith) in
        let all = layered_is.whole in
        dropped (y * layer_words r * 64 + i) (omega arith) ∙ ap (λ b. b && not (goes full now (layer_words r) (y * layer_words r * 64 + i))) (unused y i l m n);
  }
