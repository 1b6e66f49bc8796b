-- The word from which on all words are 0 (the end): how it moves as words change, and why no voxel above it is full.
use Rattle.std.proofs.Common.{◌≡◌, refl, ℕ, ◌+◌, ◌-◌, ◌*◌, ◌/◌, ◌%◌, ◌<◌, ◌≤◌, ap, subst, sym, ◌∙◌, arith, Bool, true, false, cond, ◌&&◌, List, length, get_or, replicate, find, None, inl, inr, mul-le-mul, max, not, ◌==◌}
use Rattle.std.specs.Prelude.{IsFalse, ◌⊎◌, nat_le, nat_lt}
use Rattle.std.proofs.lemmas.Bool.{cases_lt}
use Rattle.std.proofs.lemmas.Nat.{mul-add-lt}
use Rattle.std.proofs.lemmas.Nat.Bits.{bit_at-zero}
use Rattle.vox_geom.specs.declared.coordinate.Coord.{Coord}
use Rattle.vox_geom.specs.Point.{point}
use Rattle.vox_geom.specs.Region.{Corners, IsOrdered, is_within, span}
use Rattle.vox_geom.specs.Space.{IsInSpace, in_space}
use Rattle.vox_geom.proofs.Points.{space_by_test}
use Rattle.vox_geom.proofs.Tests.{at_most_by_test, less_by_test, test_unequal}
use Rattle.vox_geom.proofs.Truths.{first_of_two, no_first, no_second, second_of_two}
use Rattle.nano_spec.specs.Matrix.{Matrix, all_of, is_full}
use Rattle.nano_spec.specs.Model.{bit}
use Rattle.nano_spec.proofs.ForgeLegal.{none_found}
use Rattle.vox_planes.specs.Layers.{AreZeroFrom, IsLayered, bit_index, is_set, layer_words, layered}
use Rattle.vox_planes.specs.Places.{is_from}
use Rattle.vox_planes.proofs.Bits.{in_layer}
use Rattle.vox_planes.proofs.Chunks.{ArePutBits}
use Rattle.vox_planes.proofs.Filled.{AreFilled}
use Rattle.vox_planes.proofs.Placed.{one_of_these}
use Rattle.vox_planes.proofs.Voxels.{IsChanged, is_full-layered, none_set}
use Rattle.vox_planes.proofs.Walks.{is_of}

-- the end of words that are all 0
pub zero_zeros : (n : ℕ) → AreZeroFrom (replicate n 0) 0
zero_zeros n = record { few = omega arith; below = λ i l t. absurd (let no = none_set n i in cc) }

-- no bit of a word of 0 is 1
not_in_zero : (words : List ℕ) (i : ℕ) → get_or words (i / 64) 0 ≡ 0 → is_set words i ≡ true → ⊥
unfolding is_set
not_in_zero words i zero t = let none = ap (λ w. bit w (i % 64)) zero ∙ ap (λ v. v == 1) (bit_at-zero (i % 64)) in cc

-- if the last word before the end is 0, the end is one less
pub one_word_less : (words : List ℕ) (end : ℕ) → 0 < end → AreZeroFrom words end → get_or words (end - 1) 0 ≡ 0
    → AreZeroFrom words (end - 1)
one_word_less words end some h zero = record { few = omega (arith, h.few); below = λ i l t. by i t (h.below i l t) (cases_lt i ((end - 1) * 64)) }
  where
    by : (i : ℕ) → is_set words i ≡ true → i < end * 64 → ((i < (end - 1) * 64) ⊎ ((end - 1) * 64 ≤ i))
        → i < (end - 1) * 64
    by i t below (inl less) = less
    by i t below (inr here) =
        let word : i / 64 ≡ end - 1 = omega arith in
        absurd (not_in_zero words i (ap (λ n. get_or words n 0) word ∙ zero) t)

-- the end after a change up to the word `at`, if some changed bits may be 1
abbrev pub end_with : ℕ → ℕ → Bool → ℕ
end_with end at some = cond some (max end (at + 1)) end

-- only `count` bits from `index` on changed, none beyond the word `at`, and any of them is 1 only if `some` is true
pub zero_beside : (old new : List ℕ) (index count end at : ℕ) (some : Bool) → AreZeroFrom old end
    → length new ≡ length old → at < length new → index + count ≤ (at + 1) * 64
    → ((j : ℕ) → IsFalse (is_from index count j) → is_set new j ≡ is_set old j)
    → ((k : ℕ) → k < count → is_set new (index + k) ≡ true → some ≡ true) → AreZeroFrom new (end_with end at some)
zero_beside old new index count end at some h same l most others here = by some refl
  where
    each : (i : ℕ) → i < length new * 64 → is_set new i ≡ true → (b : Bool) → is_from index count i ≡ b
        → (i < end * 64) ⊎ ((some ≡ true) × (i < (at + 1) * 64))
    each i k t false e = inl (h.below i (subst (λ (n : ℕ). i < n * 64) same k) (sym (others i e) ∙ t))
    each i k t true e = inr (inside (at_most_by_test index i (first_of_two (nat_le index i) (nat_lt i (index + count)) e)) (less_by_test i (index + count) (second_of_two (nat_le index i) (nat_lt i (index + count)) e)))
      where
        inside : index ≤ i → i < index + count → (some ≡ true) × (i < (at + 1) * 64)
        inside from to = (here (i - index) (omega arith) (ap (is_set new) (let number : index + (i - index) ≡ i = omega arith in number) ∙ t), omega (arith, to, most))

    by : (b : Bool) → some ≡ b → AreZeroFrom new (end_with end at b)
    by true e = record { few = omega (arith, h.few, same, l); below = λ i k t. raised i (each i k t (is_from index count i) refl) }
      where
        raised : (i : ℕ) → ((i < end * 64) ⊎ ((some ≡ true) × (i < (at + 1) * 64))) → i < max end (at + 1) * 64
        raised i (inl before) = omega arith
        raised i (inr part) = omega (arith, part.1)
    by false e = record { few = omega (arith, h.few, same); below = λ i k t. kept i (each i k t (is_from index count i) refl) }
      where
        kept : (i : ℕ) → ((i < end * 64) ⊎ ((some ≡ true) × (i < (at + 1) * 64))) → i < end * 64
        kept i (inl before) = before
        kept i (inr part) = absurd (let no = part.0 in cc)

-- ---- calls that change words

-- one voxel changed
pub zero_beside_voxel : (r : ℕ) (old new : List ℕ) (c : Coord) (full : Bool) (end at : ℕ) → IsInSpace r c
    → IsLayered r old → AreZeroFrom old end → IsChanged old new (bit_index r c) full → at ≡ bit_index r c / 64
    → AreZeroFrom new (end_with end at full)
zero_beside_voxel r old new c full end at within layered_old h changed is =
    let index : bit_index r c < r * (layer_words r * 64) = omega (arith, mul-add-lt c.y (layer_words r * 64) (c.x * r + c.z) r within.y (in_layer r c within)) in
    zero_beside old new (bit_index r c) 1 end at full h changed.same_length (omega (arith, changed.same_length, layered_old.whole, index)) (omega arith)
    (λ j f. changed.others j (λ e. let one : is_from (bit_index r c) 1 j ≡ true = one_of_these (bit_index r c) 1 j (omega arith) (omega arith) in cc))
    (λ k l t. sym changed.here ∙ (ap (is_set new) (let same : bit_index r c ≡ bit_index r c + k = omega arith in same) ∙ t))

-- bits of a word became those of `bits`
pub zero_beside_put : (old new : List ℕ) (index count bits end at : ℕ) → AreZeroFrom old end
    → ArePutBits old new index count bits → length new ≡ length old → at < length new → index + count ≤ (at + 1) * 64
    → AreZeroFrom new (end_with end at (not (bits == 0)))
zero_beside_put old new index count bits end at h put same l most =
    zero_beside old new index count end at (not (bits == 0)) h same l most put.others
    (λ k l t. ap not (test_unequal bits 0 (λ none. no_bit bits k none (sym (put.here k l) ∙ t))))
  where
    no_bit : (n k : ℕ) → n ≡ 0 → bit n k ≡ true → ⊥
    no_bit n k none t = let zero_bit = ap (λ v. bit v k) none ∙ ap (λ v. v == 1) (bit_at-zero k) in cc

-- bits of a row all became 1, or all 0
pub zero_beside_filled : (old new : List ℕ) (index count : ℕ) (full : Bool) (changed end at : ℕ) → AreZeroFrom old end
    → AreFilled old new index count full changed → length new ≡ length old → at < length new
    → index + count ≤ (at + 1) * 64 → AreZeroFrom new (end_with end at full)
zero_beside_filled old new index count full changed end at h filled same l most =
    zero_beside old new index count end at full h same l most filled.others (λ k l t. sym (filled.here k l) ∙ t)

-- no bit became 1
pub zero_of_less : (old new : List ℕ) (end : ℕ) → AreZeroFrom old end → length new ≡ length old
    → ((i : ℕ) → i < length new * 64 → is_set new i ≡ true → is_set old i ≡ true) → AreZeroFrom new end
zero_of_less old new end h same less = record { few = omega (arith, h.few, same); below = λ i l t. h.below i (subst (λ (n : ℕ). i < n * 64) same l) (less i l t) }

-- ---- voxels above the end

-- no voxel is full in a layer that begins at the end or after it, nor above
pub void_above : (r : ℕ) (words : List ℕ) (c : Coord) (end y : ℕ) → IsLayered r words → AreZeroFrom words end
    → end ≤ y * layer_words r → y ≤ c.y → is_full (layered r words) c ≡ true → ⊥
void_above r words c end y w h above from full =
    let within : IsInSpace r c = space_by_test r c (first_of_two (in_space r (point c)) _ full) in
    let set : is_set words (bit_index r c) ≡ true = sym (is_full-layered r words c within) ∙ full in
    let index : bit_index r c < r * (layer_words r * 64) = omega (arith, mul-add-lt c.y (layer_words r * 64) (c.x * r + c.z) r within.y (in_layer r c within)) in
    let below : bit_index r c < end * 64 = h.below (bit_index r c) (omega (arith, index, ap (λ n. n * 64) w.whole)) set in
    let layers : y * layer_words r ≤ c.y * layer_words r = mul-le-mul from (let all : layer_words r ≤ layer_words r = omega arith in all) in
    omega arith

-- if no voxel from a region's lowest layer on is full, the region has none
pub none_above : (m : Matrix) (k : Corners) → IsOrdered k → ((c : Coord) → k.low.y ≤ c.y → is_full m c ≡ false)
    → find (λ c. is_full m c && is_within (span k) (point c)) (all_of m) ≡ None
none_above m k ordered void = none_found (λ c. is_full m c && is_within (span k) (point c)) (all_of m) (λ c. by c (is_within (span k) (point c)) refl)
  where
    by : (c : Coord) → (b : Bool) → is_within (span k) (point c) ≡ b
        → (is_full m c && is_within (span k) (point c)) ≡ false
    by c false outside = no_second (is_full m c) (is_within (span k) (point c)) outside
    by c true inside = let of = is_of k c ordered inside in no_first (is_full m c) (is_within (span k) (point c)) (void c of.y_low)
