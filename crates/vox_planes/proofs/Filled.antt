-- Bits that are made 1 or 0, and how many of them changed.
use Rattle.std.proofs.Common.{◌≡◌, ℕ, ◌+◌, ◌-◌, ◌^◌, ◌<◌, ◌≤◌, sym, ◌∙◌, ap, subst, arith, Bool, true, false, not, ◌==◌, List, inl, inr}
use Rattle.std.specs.Prelude.{IsFalse, ◌⊎◌, count_ones}
use Rattle.std.proofs.lemmas.Bool.{cases_lt}
use Rattle.std.proofs.lemmas.Nat.Bits.{bit_at-zero}
use Rattle.nano_spec.specs.Model.{bit}
use Rattle.vox_planes.specs.Bits.{others_of, has_value}
use Rattle.vox_planes.specs.Layers.{is_set}
use Rattle.vox_planes.specs.Places.{is_from}
use Rattle.vox_planes.proofs.Chunks.{outside}
use Rattle.vox_planes.proofs.Placed.{after_these, before_these, full_bit}
use Rattle.vox_planes.proofs.Totals.{as_number, both_ways, counted_from, one_if, ones-total, total, total-add, total-same}

-- ---- how many bits have the other value

pub others_total : (ws : List ℕ) (index count : ℕ) (full : Bool)
    → others_of ws index count full ≡ total count (λ k. one_if (has_value (not full) (is_set ws (index + k))))
others_total ws index count full = counted_from (λ j. has_value (not full) (is_set ws j)) count index

-- ---- bits of one word

module _ (ws : List ℕ) (index count present : ℕ) (bits : (k : ℕ) → k < count → bit present k ≡ is_set ws (index + k)) (below : present < 2 ^ count) where
  ones_are : count_ones present ≡ total count (λ k. one_if (is_set ws (index + k)))
  ones_are =
      ones-total count present below
      ∙ total-same count _ (λ k. one_if (is_set ws (index + k))) (λ k l. sym (as_number present k) ∙ ap one_if (bits k l))

  pub ones_other : count_ones present ≡ others_of ws index count false
  ones_other = ones_are ∙ sym (others_total ws index count false)

  pub zeros_other : count - count_ones present ≡ others_of ws index count true
  zeros_other = omega (arith, ones_are, others_total ws index count true, both_ways count (λ k. is_set ws (index + k)))

pub all_full : (new : List ℕ) (index count : ℕ) → count ≤ 64
    → ((k : ℕ) → k < count → is_set new (index + k) ≡ bit (2 ^ 64 - 1) k) → (k : ℕ) → k < count
    → is_set new (index + k) ≡ true
all_full new index count few here k l = here k l ∙ full_bit k (omega arith)

pub all_void : (new : List ℕ) (index count : ℕ) → ((k : ℕ) → k < count → is_set new (index + k) ≡ bit 0 k) → (k : ℕ)
    → k < count → is_set new (index + k) ≡ false
all_void new index count here k l = here k l ∙ ap (λ d. d == 1) (bit_at-zero k)

-- ---- bits of words

-- n bits from an index on were set or cleared, and this many of them changed
pub record AreFilled (old new : List ℕ) (index count : ℕ) (full : Bool) (n : ℕ) : Type 0 where
  pub here : (k : ℕ) → k < count → is_set new (index + k) ≡ full
  pub others : (j : ℕ) → IsFalse (is_from index count j) → is_set new j ≡ is_set old j
  pub changed : n ≡ others_of old index count full

pub filled_more : (old mid new : List ℕ) (index done count : ℕ) (full : Bool) (a b : ℕ)
    → AreFilled old mid index done full a → AreFilled mid new (index + done) count full b
    → AreFilled old new index (done + count) full (a + b)
filled_more old mid new index done count full a b h p = record {
  here = λ k l. by k l (cases_lt k done);
  others = λ j f. other j (outside index (done + count) j f);
  changed =
      (λ i. h.changed i + (p.changed ∙ (others_total mid (index + done) count full ∙ total-same count _ (λ k. one_if (has_value (not full) (is_set old (index + (done + k))))) (λ k l. ap one_if (ap (has_value (not full)) (unmoved k))))) i)
      ∙ (ap (λ v. v + total count (λ k. one_if (has_value (not full) (is_set old (index + (done + k)))))) (others_total old index done full)
      ∙ sym (others_total old index (done + count) full ∙ total-add done count (λ k. one_if (has_value (not full) (is_set old (index + k))))));
}
  where
    unmoved : (k : ℕ) → is_set mid (index + done + k) ≡ is_set old (index + (done + k))
    unmoved k =
        let same_index : index + done + k ≡ index + (done + k) = omega arith in
        h.others (index + done + k) (after_these index done (index + done + k) (omega arith)) ∙ ap (is_set old) same_index

    by : (k : ℕ) → k < done + count → ((k < done) ⊎ (done ≤ k)) → is_set new (index + k) ≡ full
    by k l (inl m) = p.others (index + k) (before_these (index + done) count (index + k) (omega arith)) ∙ h.here k m
    by k l (inr m) =
        let same_index : index + k ≡ index + done + (k - done) = omega arith in
        ap (is_set new) same_index ∙ p.here (k - done) (omega arith)

    other : (j : ℕ) → ((j < index) ⊎ (index + (done + count) ≤ j)) → is_set new j ≡ is_set old j
    other j (inl l) = p.others j (before_these (index + done) count j (omega arith)) ∙ h.others j (before_these index done j l)
    other j (inr l) = p.others j (after_these (index + done) count j (omega arith)) ∙ h.others j (after_these index done j (omega arith))

-- the effect of `set_bits`, for the words before and after the call
pub filled_by : (old old' new new' : List ℕ) (i s count c : ℕ) (full : Bool) (n : ℕ) → old' ≡ old → new ≡ new' → i ≡ s
    → count ≡ c → ((k : ℕ) → k < count → is_set new (i + k) ≡ full)
    → ((j : ℕ) → IsFalse (is_from i count j) → is_set new j ≡ is_set old' j) → n ≡ others_of old' i count full
    → AreFilled old new' s c full n
filled_by old old' new new' i s count c full n eo en ei ec here others changed =
    subst (λ (v : ℕ). AreFilled old new' v c full n) ei
    (subst (λ (v : ℕ). AreFilled old new' i v full n) ec
    (subst (λ (w : List ℕ). AreFilled old w i count full n) en
    (subst (λ (w : List ℕ). AreFilled w new i count full n) eo (record { here = here; others = others; changed = changed }))))
