-- The voxels at places: those whose bits are in one word of a row, and many of them part by part.
use Rattle.std.proofs.Common.{◌≡◌, ℕ, zero, suc, ◌+◌, ◌-◌, ◌*◌, ◌/◌, ◌%◌, ◌^◌, ◌<◌, ◌≤◌, sym, ◌∙◌, ap, arith, Bool, true, false, cond, ◌==◌, List, length, inl, inr}
use Rattle.std.specs.Prelude.{◌⊎◌}
use Rattle.std.specs.Int.{bit_at}
use Rattle.std.proofs.Math.Arith.{digits_lt}
use Rattle.std.proofs.lemmas.Bool.{cases_lt}
use Rattle.std.proofs.lemmas.Bool.Decides.{nat_tests}
use Rattle.std.proofs.lemmas.List.{get_or_past}
use Rattle.std.proofs.Math.Nat.{mod-eq_of_lt, mul-le-mul, pow-le-pow_right}
use Rattle.std.proofs.lemmas.Nat.{pow-add, pow_pos, same_from_place}
use Rattle.std.proofs.lemmas.Nat.Bits.{bit_at_cat_high, bit_at_cat_low, bit_at_ones}
use Rattle.vox_geom.specs.declared.coordinate.Coord.{Coord}
use Rattle.vox_geom.specs.Space.{IsInSpace, coordinate_at, place}
use Rattle.vox_geom.proofs.Places.{coordinate_at-place, place-coordinate_at}
use Rattle.vox_geom.proofs.Firsts.{at_in_space, place_below}
use Rattle.nano_spec.specs.Matrix.{Matrix}
use Rattle.nano_spec.specs.Model.{bit, volume}
use Rattle.vox_planes.specs.Layers.{IsLayered, bit_index, is_set, layer_words, layered}
use Rattle.vox_planes.specs.Places.{is_from, voxel_at}
use Rattle.vox_planes.specs.Walk.{at}
use Rattle.vox_planes.proofs.Bits.{in_layer, one_bit}
use Rattle.vox_planes.proofs.Chunks.{ArePutBits, shifted_bit}
use Rattle.vox_planes.proofs.Voxels.{get_or-where, length-where}

-- ---- which numbers are from one on

pub before_these : (from count p : ℕ) → p < from → is_from from count p ≡ false
before_these from count p l = grind (arith, nat_tests)

pub one_of_these : (from count p : ℕ) → from ≤ p → p < from + count → is_from from count p ≡ true
one_of_these from count p h l = grind (arith, nat_tests)

pub after_these : (from count p : ℕ) → from + count ≤ p → is_from from count p ≡ false
after_these from count p l = grind (arith, nat_tests)

pub none_of_these : (from count p : ℕ) → ((k : ℕ) → k < count → p ≡ from + k → ⊥) → is_from from count p ≡ false
none_of_these from count p h = by (cases_lt p from) (cases_lt p (from + count))
  where
    by : ((p < from) ⊎ (from ≤ p)) → ((p < from + count) ⊎ (from + count ≤ p)) → is_from from count p ≡ false
    by (inl l) m = before_these from count p l
    by (inr l) (inr m) = after_these from count p m
    by (inr l) (inl m) = absurd (h (p - from) (omega arith) (omega arith))

-- ---- the bits of places in one row

pub at_place : (r n : ℕ) (c : Coord) → r ≡ n → IsInSpace n c → c ≡ coordinate_at r (place n c)
at_place r n c e h = sym (ap (λ (k : ℕ). coordinate_at k (place n c)) e ∙ coordinate_at-place n c h)

-- voxels that were put from a place on, by another form of the place
pub put_from : (old new : Matrix) (from place count : ℕ) (test : ℕ → Bool) → from ≡ place
    → ((p : ℕ) → voxel_at new p ≡ cond (is_from from count p) (test (p - from)) (voxel_at old p)) → (p : ℕ)
    → voxel_at new p ≡ cond (is_from place count p) (test (p - place)) (voxel_at old p)
put_from old new from place count test e h p =
    h p ∙ ap (λ (n : ℕ). cond (is_from n count p) (test (p - n)) (voxel_at old p)) e

-- the voxels of a row end within the volume
pub row_ends : (r : ℕ) (c : Coord) (count : ℕ) → IsInSpace r c → c.z + count ≤ r → place r c + count ≤ volume r
row_ends r c zero h l = let below = place_below r c h in omega arith
row_ends r c (suc n) h l =
    let last : Coord = at c (c.z + n) in
    let below = place_below r last (record { x = h.x; y = h.y; z = omega arith }) in
    omega (arith, below)

-- the coordinate n places on in its row
pub next_place : (r from k : ℕ) → from < volume r → (coordinate_at r from).z + k < r
    → coordinate_at r (from + k) ≡ at (coordinate_at r from) ((coordinate_at r from).z + k)
next_place r from k l h =
    let place_there : Coord = coordinate_at r from in
    let in_space : IsInSpace r (coordinate_at r from) = at_in_space r from l in
    let within : IsInSpace r (at (coordinate_at r from) ((coordinate_at r from).z + k)) = record { x = in_space.x; y = in_space.y; z = h } in
    let back : place r (coordinate_at r from) ≡ from = place-coordinate_at r from in
    let on : place r (at (coordinate_at r from) ((coordinate_at r from).z + k)) ≡ from + k = omega arith in
    ap (coordinate_at r) (sym on) ∙ coordinate_at-place r (at (coordinate_at r from) ((coordinate_at r from).z + k)) within

pub next_index : (r from k : ℕ) → from < volume r → (coordinate_at r from).z + k < r
    → bit_index r (coordinate_at r (from + k)) ≡ bit_index r (coordinate_at r from) + k
next_index r from k l h = ap (bit_index r) (next_place r from k l h) ∙ omega arith

-- the voxel at a place by its bit
pub voxel_by_bit : (r : ℕ) (ws : List ℕ) (p : ℕ) → p < volume r
    → voxel_at (layered r ws) p ≡ is_set ws (bit_index r (coordinate_at r p))
voxel_by_bit r ws p l = get_or-where r (λ c. is_set ws (bit_index r c)) p l

no_voxel : (r : ℕ) (ws : List ℕ) (p : ℕ) → volume r ≤ p → voxel_at (layered r ws) p ≡ false
no_voxel r ws p l = get_or_past (layered r ws).voxels p false (let where_length = length-where r (λ c. is_set ws (bit_index r c)) in omega arith)

-- ---- bits that were put

module _ (r : ℕ) (old new : List ℕ) (from count bits : ℕ) (within : from + count ≤ volume r) (row : (coordinate_at r from).z + count ≤ r) (put : ArePutBits old new (bit_index r (coordinate_at r from)) count bits) where
  index_of : (k : ℕ) → k < count → bit_index r (coordinate_at r (from + k)) ≡ bit_index r (coordinate_at r from) + k
  index_of k l = next_index r from k (omega arith) (omega arith)

  other_bit : (p : ℕ) → p < volume r → ((k : ℕ) → k < count → p ≡ from + k → ⊥)
      → is_from (bit_index r (coordinate_at r from)) count (bit_index r (coordinate_at r p)) ≡ false
  other_bit p l other = none_of_these (bit_index r (coordinate_at r from)) count (bit_index r (coordinate_at r p)) (λ k m e.
      let less : from + k < volume r = omega arith in
      let same : coordinate_at r p ≡ coordinate_at r (from + k) = one_bit r (coordinate_at r p) (coordinate_at r (from + k)) (at_in_space r p l) (at_in_space r (from + k) less) (e ∙ sym (index_of k m)) in
      other k m (sym (place-coordinate_at r p) ∙ (ap (place r) same ∙ place-coordinate_at r (from + k))))

  pub put_voxels : (p : ℕ)
      → voxel_at (layered r new) p ≡ cond (is_from from count p) (bit bits (p - from)) (voxel_at (layered r old) p)
  put_voxels p = by (cases_lt p (volume r)) (cases_lt p from) (cases_lt p (from + count))
    where
      other : p < volume r → ((k : ℕ) → k < count → p ≡ from + k → ⊥) → is_from from count p ≡ false
          → voxel_at (layered r new) p ≡ cond (is_from from count p) (bit bits (p - from)) (voxel_at (layered r old) p)
      other l o f =
          voxel_by_bit r new p l
          ∙ (put.others (bit_index r (coordinate_at r p)) (other_bit p l o)
          ∙ (sym (voxel_by_bit r old p l) ∙ sym (ap (λ b. cond b (bit bits (p - from)) (voxel_at (layered r old) p)) f)))

      by : ((p < volume r) ⊎ (volume r ≤ p)) → ((p < from) ⊎ (from ≤ p)) → ((p < from + count) ⊎ (from + count ≤ p))
          → voxel_at (layered r new) p ≡ cond (is_from from count p) (bit bits (p - from)) (voxel_at (layered r old) p)
      by (inl l) (inl m) n = other l (λ k u e. absurd (omega arith)) (before_these from count p m)
      by (inl l) (inr m) (inr n) = other l (λ k u e. absurd (omega arith)) (after_these from count p n)
      by (inl l) (inr m) (inl n) =
          let on : from + (p - from) ≡ p = omega arith in
          voxel_by_bit r new p l
          ∙ (ap (λ q. is_set new (bit_index r (coordinate_at r q))) (sym on)
          ∙ (ap (is_set new) (index_of (p - from) (omega arith))
          ∙ (put.here (p - from) (omega arith)
          ∙ sym (ap (λ b. cond b (bit bits (p - from)) (voxel_at (layered r old) p)) (one_of_these from count p m n)))))
      by (inr l) m n =
          no_voxel r new p l
          ∙ (sym (no_voxel r old p l)
          ∙ sym (ap (λ b. cond b (bit bits (p - from)) (voxel_at (layered r old) p)) (after_these from count p (omega arith))))

  pub put_layered : length new ≡ length old → IsLayered r old → IsLayered r new
  put_layered same_length w = record {
    some = w.some;
    most = w.most;
    whole = same_length ∙ w.whole;
    unused = λ y i l m n. put.others (y * layer_words r * 64 + i) (none_of_these (bit_index r (coordinate_at r from)) count (y * layer_words r * 64 + i) (λ k u e. unused y i l m n k u e)) ∙ w.unused y i l m n;
  }
    where
      unused : (y i : ℕ) → y < r → r * r ≤ i → i < layer_words r * 64 → (k : ℕ) → k < count
          → y * layer_words r * 64 + i ≡ bit_index r (coordinate_at r from) + k → ⊥
      unused y i l m n k u e =
          let place_there : Coord = coordinate_at r (from + k) in
          let less : from + k < volume r = omega arith in
          let in_space : IsInSpace r (coordinate_at r (from + k)) = at_in_space r (from + k) less in
          let inside : (coordinate_at r (from + k)).x * r + (coordinate_at r (from + k)).z < r * r = digits_lt in_space.x in_space.z in
          let here : y * layer_words r * 64 + i ≡ bit_index r (coordinate_at r (from + k)) = e ∙ sym (index_of k u) in
          let same = same_from_place y i (coordinate_at r (from + k)).y ((coordinate_at r (from + k)).x * r + (coordinate_at r (from + k)).z) (layer_words r * 64) n (in_layer r (coordinate_at r (from + k)) in_space) (omega (arith, here)) in
          omega (arith, same.1)

-- ---- one part after another

-- n voxels from a place on have the values of a test, the others are as they were
pub record ArePut (old new : Matrix) (from count : ℕ) (test : ℕ → Bool) : Type 0 where
  pub voxels : (p : ℕ) → voxel_at new p ≡ cond (is_from from count p) (test p) (voxel_at old p)

pub put_parts : (old mid new : Matrix) (from done count : ℕ) (test part : ℕ → Bool) → ArePut old mid from done test
    → ((p : ℕ) → voxel_at new p ≡ cond (is_from (from + done) count p) (part p) (voxel_at mid p))
    → ((p : ℕ) → from + done ≤ p → p < from + done + count → part p ≡ test p) → ArePut old new from (done + count) test
put_parts old mid new from done count test part h set same = record { voxels = λ p. set p ∙ by p (cases_lt p (from + done)) (cases_lt p (from + done + count)) }
  where
    earlier : (p : ℕ) → p < from + done → is_from from done p ≡ is_from from (done + count) p
    earlier p l = grind (arith, nat_tests)

    by : (p : ℕ) → ((p < from + done) ⊎ (from + done ≤ p)) → ((p < from + done + count) ⊎ (from + done + count ≤ p))
        → cond (is_from (from + done) count p) (part p) (voxel_at mid p)
        ≡ cond (is_from from (done + count) p) (test p) (voxel_at old p)
    by p (inl l) m =
        ap (λ b. cond b (part p) (voxel_at mid p)) (before_these (from + done) count p l)
        ∙ (h.voxels p ∙ ap (λ b. cond b (test p) (voxel_at old p)) (earlier p l))
    by p (inr l) (inl m) =
        ap (λ b. cond b (part p) (voxel_at mid p)) (one_of_these (from + done) count p l m)
        ∙ (same p l m ∙ sym (ap (λ b. cond b (test p) (voxel_at old p)) (one_of_these from (done + count) p (omega arith) (omega arith))))
    by p (inr l) (inr m) =
        ap (λ b. cond b (part p) (voxel_at mid p)) (after_these (from + done) count p m)
        ∙ (h.voxels p
        ∙ (ap (λ b. cond b (test p) (voxel_at old p)) (after_these from done p l)
        ∙ sym (ap (λ b. cond b (test p) (voxel_at old p)) (after_these from (done + count) p (omega arith)))))

-- the bits that are left of a word
pub left_bit : (bits from done p : ℕ) → from + done ≤ p
    → bit (bits / 2 ^ done) (p - (from + done)) ≡ bit bits (p - from)
left_bit bits from done p l =
    let done_is : done + (p - (from + done)) ≡ p - from = omega arith in
    ap (λ d. d == 1) (shifted_bit bits done (p - (from + done)) ∙ ap (bit_at bits) done_is)

-- all bits of a full word
pub full_bit : (k : ℕ) → k < 64 → bit (2 ^ 64 - 1) k ≡ true
full_bit k l = ap (λ d. d == 1) (bit_at_ones 64 k l)

-- ---- the bits of voxels

-- the bits below k are those of a test
pub record HasBits (w k : ℕ) (test : ℕ → Bool) : Type 0 where
  pub bits : (j : ℕ) → j < k → bit w j ≡ test j
  pub below : w < 2 ^ k

-- a word of n bits, raised by k, and a word of k bits
raised : (w v k n : ℕ) → w < 2 ^ k → v < 2 ^ n → v * 2 ^ k + w < 2 ^ (k + n)
raised w v k n lw lv =
    let top : (v + 1) * 2 ^ k ≤ 2 ^ n * 2 ^ k = mul-le-mul (omega arith) (omega arith) in
    let both : 2 ^ (k + n) ≡ 2 ^ k * 2 ^ n = pow-add 2 k n in
    omega arith

not_cut : (v k n : ℕ) → v < 2 ^ n → k + n ≤ 64 → v * 2 ^ k % 2 ^ 64 ≡ v * 2 ^ k
not_cut v k n lv h =
    let most : 2 ^ (k + n) ≤ 2 ^ 64 = pow-le-pow_right {n = 2} (omega arith) h in
    let low : v * 2 ^ k + 0 < 2 ^ (k + n) = raised 0 v k n (pow_pos k) lv in
    mod-eq_of_lt (omega arith)

-- the bits of one word and, behind them, those of another
pub bits_joined : (w v u k n : ℕ) (test : ℕ → Bool) → HasBits w k test → v < 2 ^ n
    → ((j : ℕ) → j < n → bit v j ≡ test (k + j)) → k + n ≤ 64 → u ≡ w + v * 2 ^ k % 2 ^ 64 → HasBits u (k + n) test
bits_joined w v u k n test h below bits few eu = record {
  bits = λ j m. by j m (cases_lt j k);
  below = (let raised_here = raised w v k n h.below below in omega (arith, is));
}
  where
    is : u ≡ v * 2 ^ k + w
    is = eu ∙ (ap (λ m. w + m) (not_cut v k n below few) ∙ omega arith)

    by : (j : ℕ) → j < k + n → ((j < k) ⊎ (k ≤ j)) → bit u j ≡ test j
    by j m (inl l) = ap (λ x. bit x j) is ∙ (ap (λ d. d == 1) (bit_at_cat_low v k w j l) ∙ h.bits j l)
    by j m (inr l) =
        let on : k + (j - k) ≡ j = omega arith in
        ap (λ x. bit x j) is ∙ (ap (λ d. d == 1) (bit_at_cat_high v k w j h.below l) ∙ (bits (j - k) (omega arith) ∙ ap test on))

-- the sum of both fits
pub joined_fits : (w v k n : ℕ) → w < 2 ^ k → v < 2 ^ n → k + n ≤ 64 → w + v * 2 ^ k % 2 ^ 64 < 2 ^ 64
joined_fits w v k n lw lv h =
    let most : 2 ^ (k + n) ≤ 2 ^ 64 = pow-le-pow_right {n = 2} (omega arith) h in
    let raised_here = raised w v k n lw lv in
    let not_cut_here = not_cut v k n lv h in
    omega arith

-- the bits that were read of one word of a row are those of the voxels
pub read_voxels : (r : ℕ) (ws ws' : List ℕ) (m : Matrix) (from done n v index : ℕ) (c : Coord) → layered r ws ≡ m
    → ws' ≡ ws → c ≡ coordinate_at r (from + done) → index ≡ bit_index r c → from + done + n ≤ volume r
    → (coordinate_at r (from + done)).z + n ≤ r → ((j : ℕ) → j < n → bit v j ≡ is_set ws' (index + j)) → (j : ℕ) → j < n
    → bit v j ≡ voxel_at m (from + (done + j))
read_voxels r ws ws' m from done n v index c em ew ec ei within row read j l =
    let on : from + done + j ≡ from + (done + j) = omega arith in
    read j l
    ∙ ((λ i. is_set (ew i) ((ei ∙ ap (bit_index r) ec) i + j))
    ∙ (ap (is_set ws) (sym (next_index r (from + done) j (omega arith) (omega arith)))
    ∙ (sym (voxel_by_bit r ws (from + done + j) (omega arith))
    ∙ (λ i. voxel_at (em i) (on i)))))
