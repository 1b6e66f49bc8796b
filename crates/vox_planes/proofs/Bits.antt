-- One bit of the words, and the bits of two coordinates.
use Rattle.std.proofs.Common.{◌≡◌, ◌≢◌, ℕ, ◌+◌, ◌*◌, ◌/◌, ◌%◌, ◌^◌, ◌<◌, refl, sym, ◌∙◌, ap, arith, Bool, true, false, ◌==◌, List, length, get_or, set, bit_and, bit_or}
use Rattle.std.specs.Int.{bit_at, bit_not, w64}
use Rattle.std.proofs.Math.Arith.{digits_lt}
use Rattle.std.proofs.lemmas.List.{get_or-set_same, get_or-set_other}
use Rattle.std.proofs.lemmas.Nat.{same_from_place}
use Rattle.std.proofs.lemmas.Nat.Bits.{bit_at_set_same, bit_at_set_other, bit_at_clear_same, bit_at_clear_other}
use native.Mathlib.Decide.{ℕ_discrete}
use Rattle.vox_geom.specs.declared.coordinate.Coord.{Coord}
use Rattle.vox_geom.specs.Space.{IsInSpace}
use Rattle.nano_spec.specs.Model.{bit}
use Rattle.vox_planes.specs.Layers.{layer_words, bit_index, is_set}

-- ---- the bit that a write changes, and the others

pub one : (n k : ℕ) → bit_at n k ≡ 1 → bit n k ≡ true
one n k h = rw h refl

pub zero_bit : (n k : ℕ) → bit_at n k ≡ 0 → bit n k ≡ false
zero_bit n k h = rw h refl

-- a word in which the bit i is b, and all other bits are those of another word
pub record IsWritten (w v i : ℕ) (b : Bool) : Type 0 where
  pub here : bit v i ≡ b
  pub others : (k : ℕ) → k < 64 → k ≢ i → bit v k ≡ bit w k

pub filled : (w i : ℕ) → i < 64 → IsWritten w (bit_or w (1 * 2 ^ i % 2 ^ 64)) i true
filled w i h = record {
  here = one _ i (bit_at_set_same w64 w i h);
  others = λ k l n. ap (λ b. b == 1) (bit_at_set_other w64 w i h k n);
}

pub voided : (w i : ℕ) → i < 64 → IsWritten w (bit_and w (bit_not w64 (1 * 2 ^ i % 2 ^ 64))) i false
voided w i h = record {
  here = zero_bit _ i (bit_at_clear_same w64 w i h);
  others = λ k l n. ap (λ b. b == 1) (bit_at_clear_other w64 w i h k l n);
}

pub set_here : (ws : List ℕ) (i v : ℕ) (b : Bool) → i / 64 < length ws → IsWritten (get_or ws (i / 64) 0) v (i % 64) b
    → is_set (set ws (i / 64) v) i ≡ b
unfolding is_set
set_here ws i v b h e = ap (λ n. bit n (i % 64)) (get_or-set_same ws (i / 64) v 0 h) ∙ e.here

pub set_others : (ws : List ℕ) (i v : ℕ) (b : Bool) → i / 64 < length ws → IsWritten (get_or ws (i / 64) 0) v (i % 64) b
    → (j : ℕ) → j ≢ i → is_set (set ws (i / 64) v) j ≡ is_set ws j
unfolding is_set
set_others ws i v b h e j n = by (ℕ_discrete (j / 64) (i / 64))
  where
    by : Dec (j / 64 ≡ i / 64)
        → bit (get_or (set ws (i / 64) v) (j / 64) 0) (j % 64) ≡ bit (get_or ws (j / 64) 0) (j % 64)
    by (yes same) =
        ap (λ q. bit (get_or (set ws (i / 64) v) q 0) (j % 64)) same
        ∙ (ap (λ w. bit w (j % 64)) (get_or-set_same ws (i / 64) v 0 h)
        ∙ (e.others (j % 64) (omega arith) (λ (m : j % 64 ≡ i % 64). n (omega arith))
        ∙ ap (λ q. bit (get_or ws q 0) (j % 64)) (sym same)))
    by (no other) = ap (λ w. bit w (j % 64)) (get_or-set_other ws (i / 64) (j / 64) v 0 other)

-- ---- the bits of coordinates

-- a row of a layer ends before the layer does
pub in_layer : (r : ℕ) (c : Coord) → IsInSpace r c → c.x * r + c.z < layer_words r * 64
in_layer r c h = let below_r : c.x * r + c.z < r * r = digits_lt h.x h.z in omega arith

-- two coordinates with one bit are one
pub one_bit : (r : ℕ) (c d : Coord) → IsInSpace r c → IsInSpace r d → bit_index r c ≡ bit_index r d → c ≡ d
one_bit r c d hc hd e =
    let layers = same_from_place c.y (c.x * r + c.z) d.y (d.x * r + d.z) (layer_words r * 64) (in_layer r c hc) (in_layer r d hd) (omega (arith, e)) in
    let rows = same_from_place c.x c.z d.x d.z r hc.z hd.z layers.1 in
    λ i. record { x = rows.0 i; y = layers.0 i; z = rows.1 i }
