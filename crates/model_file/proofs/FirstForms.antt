-- The bits of the first form.
use Rattle.std.proofs.Common.{◌≡◌, ℕ, zero, suc, ◌+◌, ◌-◌, ◌*◌, ◌/◌, ◌%◌, ◌<◌, ◌≤◌, ◌^◌, ◌++◌, ◌==◌, add-one, zero-add, refl, sym, ◌∙◌, ap, arith, Bool, false, cond, List, [], ◌∷◌, length, map, get_or, inl, inr}
use Rattle.std.specs.Prelude.{◌⊎◌, slice_index, sum_by}
use Rattle.std.proofs.lemmas.Bool.{cases_lt}
use Rattle.std.proofs.lemmas.List.{ext_get_or, get_or-map, length-map}
use Rattle.std.proofs.Math.Nat.{mod-eq_of_lt, pow-le-pow_right}
use Rattle.std.proofs.lemmas.Nat.Bits.{bit_at-zero, bit_at_above}
use Rattle.vox_geom.specs.Space.{numbers_below, numbers_from}
use Rattle.nano_spec.specs.Matrix.{Matrix, empty}
use Rattle.nano_spec.specs.Model.{bit, byte_at, volume, voxel_bit}
use Rattle.vox_planes.specs.Places.{is_from, voxel_at}
use Rattle.vox_planes.specs.Voxel.{IsWhole}
use Rattle.vox_planes.proofs.Placed.{after_these, before_these, one_of_these}
use Rattle.vox_planes.proofs.Chunks.{chunk_bit}
use Rattle.vox_planes.proofs.Voxels.{get_or-numbers, void_at}
use Rattle.model_file.specs.Words.{IsReadTo, IsWordOf}

-- ---- a matrix by its voxels

pub length-numbers : (n a : ℕ) → length (numbers_from a n) ≡ n
length-numbers zero a = refl
length-numbers (suc n) a = ap suc (length-numbers n (a + 1))

pub matrix_is : (m : Matrix) (r : ℕ) (f : ℕ → Bool) → m.resolution ≡ r → length m.voxels ≡ volume r
    → ((p : ℕ) → p < volume r → voxel_at m p ≡ f p)
    → m ≡ (record { resolution = r; voxels = map f (numbers_below (volume r)) })
matrix_is m r f er el h = λ i. record { resolution = er i; voxels = same i }
  where
    each : (p : ℕ) → p < volume r → get_or (map f (numbers_below (volume r))) p false ≡ f p
    each p l =
        get_or-map f (numbers_below (volume r)) p 0 false (let numbers_length = length-numbers (volume r) 0 in omega arith)
        ∙ ap f (get_or-numbers (volume r) 0 p 0 l ∙ zero-add p)

    same : m.voxels ≡ map f (numbers_below (volume r))
    same = ext_get_or false m.voxels (map f (numbers_below (volume r))) (el ∙ sym (length-map (numbers_below (volume r)) f ∙ length-numbers (volume r) 0)) (λ p l. let below_volume : p < volume r = omega (arith, el) in h p below_volume ∙ sym (each p below_volume))

-- ---- reading

-- a word's mask of that many bits does not overflow
mask_power : (count : ℕ) → count ≤ 57 → 1 * 2 ^ count % 2 ^ 64 ≡ 2 ^ count
mask_power count few =
    let most : 2 ^ count ≤ 2 ^ 57 = pow-le-pow_right {n = 2} (omega arith) few in
    mod-eq_of_lt (omega arith) ∙ omega arith

-- the bits of a word from the lowest byte's bit `place % 8` on are the voxels from the place on
pub voxel_bits : (bytes : List ℕ) (place word count : ℕ) → IsWordOf bytes (1 + place / 8) word → count ≤ 57 → (k : ℕ)
    → k < count → bit (word / 2 ^ (place % 8) % (1 * 2 ^ count % 2 ^ 64)) k ≡ voxel_bit bytes (place + k)
voxel_bits bytes place word count is few k l =
    let byte : 1 + place / 8 + (place % 8 + k) / 8 ≡ 1 + (place + k) / 8 = omega arith in
    let digit : (place % 8 + k) % 8 ≡ (place + k) % 8 = omega arith in
    ap (λ n. bit (word / 2 ^ (place % 8) % n) k) (mask_power count few)
    ∙ (chunk_bit word (place % 8) count k l
    ∙ (is (place % 8 + k) (omega arith) ∙ (λ i. bit (slice_index bytes (byte i)) (digit i))))

pub read_none : (m : Matrix) (bytes : List ℕ) → m ≡ empty m.resolution → IsWhole m → IsReadTo m bytes 0
read_none m bytes e whole = record {
  voxels = λ p l. absurd (omega arith);
  void = λ p l. ap (λ (n : Matrix). voxel_at n p) e ∙ void_at m.resolution p;
  whole = whole;
}

module _ (old : Matrix) (bytes : List ℕ) (place count bits : ℕ) (before : IsReadTo old bytes place)
    (here : (k : ℕ) → k < count → bit bits k ≡ voxel_bit bytes (place + k)) where
  bit_here : (p : ℕ) → place ≤ p → p < place + count → bit bits (p - place) ≡ voxel_bit bytes p
  bit_here p m l =
      let on : place + (p - place) ≡ p = omega arith in
      here (p - place) (omega arith) ∙ ap (voxel_bit bytes) on

  -- with no bit there is nothing to write
  pub read_void : bits ≡ 0 → IsReadTo old bytes (place + count)
  read_void none = record {
    voxels = λ p l. by p l (cases_lt p place);
    void = λ p l. before.void p (omega arith);
    whole = before.whole;
  }
    where
      by : (p : ℕ) → p < place + count → ((p < place) ⊎ (place ≤ p)) → voxel_at old p ≡ voxel_bit bytes p
      by p l (inl m) = before.voxels p m
      by p l (inr m) = before.void p m ∙ (sym (ap (λ b. bit b (p - place)) none ∙ ap (λ d. d == 1) (bit_at-zero (p - place))) ∙ bit_here p m l)

  -- the voxels of one more word
  pub read_more : (new : Matrix)
      → ((p : ℕ) → voxel_at new p ≡ cond (is_from place count p) (bit bits (p - place)) (voxel_at old p)) → IsWhole new
      → IsReadTo new bytes (place + count)
  read_more new set whole = record {
    voxels = λ p l. set p ∙ by p l (cases_lt p place);
    void = λ p l. set p ∙ (ap (λ b. cond b (bit bits (p - place)) (voxel_at old p)) (after_these place count p l) ∙ before.void p (omega arith));
    whole = whole;
  }
    where
      by : (p : ℕ) → p < place + count → ((p < place) ⊎ (place ≤ p))
          → cond (is_from place count p) (bit bits (p - place)) (voxel_at old p) ≡ voxel_bit bytes p
      by p l (inl m) = ap (λ b. cond b (bit bits (p - place)) (voxel_at old p)) (before_these place count p m) ∙ before.voxels p m
      by p l (inr m) = ap (λ b. cond b (bit bits (p - place)) (voxel_at old p)) (one_of_these place count p m l) ∙ bit_here p m l

-- ---- writing

numbers_more : {A : Type 0} (f : ℕ → A) (n a : ℕ)
    → map f (numbers_from a (n + 1)) ≡ map f (numbers_from a n) ++ f (a + n) ∷ []
numbers_more f n a = ap (λ k. map f (numbers_from a k)) (add-one n) ∙ by n a
  where
    by : (n a : ℕ) → map f (numbers_from a (suc n)) ≡ map f (numbers_from a n) ++ f (a + n) ∷ []
    by zero a = ap (λ v. f v ∷ []) (let a_is : a ≡ a + 0 = omega arith in a_is)
    by (suc n) a = ap (λ xs. f a ∷ xs) (by n (a + 1) ∙ ap (λ v. map f (numbers_from (a + 1) n) ++ f v ∷ []) (let sum_is : a + 1 + n ≡ a + suc n = omega arith in sum_is))

-- a byte is the sum of its bits
eight : (n : ℕ) → n < 256 → n ≡ n % 2 + n / 2 % 2 * 2 + n / 4 % 2 * 4 + n / 8 % 2 * 8 + n / 16 % 2 * 16
    + n / 32 % 2 * 32 + n / 64 % 2 * 64 + n / 128 % 2 * 128
eight n l = omega arith

worth : (d c : ℕ) → d < 2 → d * c ≡ cond (d == 1) c 0
worth zero c l = omega arith
worth (suc zero) c l = omega arith
worth (suc (suc d)) c l = absurd (omega arith)

bits_sum : (n : ℕ) → n < 256 → n ≡ sum_by (λ i. cond (bit n i) (2 ^ i) 0) (numbers_below 8)
bits_sum n l =
    let ones_worth : n / 1 % 2 * 1 ≡ cond (bit n 0) 1 0 = worth (n / 1 % 2) 1 (omega arith) in
    let twos_worth : n / 2 % 2 * 2 ≡ cond (bit n 1) 2 0 = worth (n / 2 % 2) 2 (omega arith) in
    let fours_worth : n / 4 % 2 * 4 ≡ cond (bit n 2) 4 0 = worth (n / 4 % 2) 4 (omega arith) in
    let eights_worth : n / 8 % 2 * 8 ≡ cond (bit n 3) 8 0 = worth (n / 8 % 2) 8 (omega arith) in
    let sixteens_worth : n / 16 % 2 * 16 ≡ cond (bit n 4) 16 0 = worth (n / 16 % 2) 16 (omega arith) in
    let thirty_twos_worth : n / 32 % 2 * 32 ≡ cond (bit n 5) 32 0 = worth (n / 32 % 2) 32 (omega arith) in
    let sixty_fours_worth : n / 64 % 2 * 64 ≡ cond (bit n 6) 64 0 = worth (n / 64 % 2) 64 (omega arith) in
    let product_is : n / 128 % 2 * 128 ≡ cond (bit n 7) 128 0 = worth (n / 128 % 2) 128 (omega arith) in
    start ∙ (λ j. 0 + ones_worth j + twos_worth j + fours_worth j + eights_worth j + sixteens_worth j + thirty_twos_worth j + sixty_fours_worth j + product_is j)
  where
    start : n ≡ 0 + n / 1 % 2 * 1 + n / 2 % 2 * 2 + n / 4 % 2 * 4 + n / 8 % 2 * 8 + n / 16 % 2 * 16 + n / 32 % 2 * 32
        + n / 64 % 2 * 64 + n / 128 % 2 * 128
    start = omega (arith, eight n l)

no_bit : (n count i : ℕ) → n < 2 ^ count → count ≤ i → bit n i ≡ false
no_bit n count i l h = ap (λ d. d == 1) (bit_at_above n count i l h)

-- the byte of that many voxels
pub byte_of : (voxels : List Bool) (k count byte : ℕ) → count ≤ 8 → byte < 2 ^ count
    → ((i : ℕ) → i < count → bit byte i ≡ get_or voxels (8 * k + i) false)
    → ((i : ℕ) → count ≤ i → i < 8 → get_or voxels (8 * k + i) false ≡ false) → byte ≡ byte_at voxels k
byte_of voxels k count byte few below bits none = bits_sum byte (omega (arith, small)) ∙ same
  where
    small : 2 ^ count ≤ 2 ^ 8
    small = pow-le-pow_right {n = 2} (omega arith) few

    each : (i : ℕ) → i < 8 → bit byte i ≡ get_or voxels (8 * k + i) false
    each i l = by (cases_lt i count)
      where
        by : ((i < count) ⊎ (count ≤ i)) → bit byte i ≡ get_or voxels (8 * k + i) false
        by (inl h) = bits i h
        by (inr h) = no_bit byte count i below h ∙ sym (none i h l)

    same : sum_by (λ i. cond (bit byte i) (2 ^ i) 0) (numbers_below 8) ≡ byte_at voxels k
    same = λ j. 0 + cond (each 0 (omega arith) j) 1 0 + cond (each 1 (omega arith) j) 2 0 + cond (each 2 (omega arith) j) 4 0 + cond (each 3 (omega arith) j) 8 0 + cond (each 4 (omega arith) j) 16 0 + cond (each 5 (omega arith) j) 32 0 + cond (each 6 (omega arith) j) 64 0 + cond (each 7 (omega arith) j) 128 0

pub byte_pushed : (r : ℕ) (voxels : List Bool) (k : ℕ) (old new : List ℕ) (byte : ℕ)
    → old ≡ r ∷ map (byte_at voxels) (numbers_below k) → new ≡ old ++ byte ∷ [] → byte ≡ byte_at voxels k
    → new ≡ r ∷ map (byte_at voxels) (numbers_below (k + 1))
byte_pushed r voxels k old new byte eo en eb =
    en ∙ ((λ i. eo i ++ eb i ∷ []) ∙ ap (λ xs. r ∷ xs) (ap (λ v. map (byte_at voxels) (numbers_below k) ++ byte_at voxels v ∷ []) (sym (zero-add k)) ∙ sym (numbers_more (byte_at voxels) k 0)))
