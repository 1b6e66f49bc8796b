-- Sums over numbers, and the count of the bits of words.
use Rattle.std.proofs.Common.{◌≡◌, ℕ, zero, suc, ◌+◌, ◌-◌, ◌*◌, ◌/◌, ◌%◌, ◌^◌, ◌<◌, ◌≤◌, refl, sym, ◌∙◌, ap, arith, Bool, true, false, cond, not, ◌==◌, List, length, map, get_or}
use Rattle.std.specs.Prelude.{count_by, count_ones}
use Rattle.std.specs.Int.{bit_at}
use lib.Count.{ones, ones_in}
use Rattle.std.proofs.Math.Nat.{mul-le-mul}
use Rattle.std.proofs.lemmas.List.Sums.{sum_by-cons}
use Rattle.std.proofs.lemmas.Nat.{ones_cat, pow_pos, shr_split, shr_below, mod_below}
use Rattle.std.proofs.lemmas.Nat.Bits.{bit_at_cat_low, bit_at-lt}
use Rattle.vox_geom.specs.declared.coordinate.Coord.{Coord}
use Rattle.vox_geom.specs.Space.{IsInSpace, coordinate_at, coordinates, numbers_from, place}
use Rattle.vox_geom.proofs.Places.{coordinate_at-place}
use Rattle.nano_spec.specs.Matrix.{is_full}
use Rattle.nano_spec.specs.Model.{bit}
use Rattle.vox_planes.specs.Layers.{IsLayered, bit_index, is_set, layer_words, layered}
use Rattle.vox_planes.proofs.Voxels.{is_full-layered}

-- ---- sums over the numbers below n

pub total : ℕ → (ℕ → ℕ) → ℕ
total zero f = 0
total (suc n) f = total n f + f n

pub total-same : (n : ℕ) (f g : ℕ → ℕ) → ((k : ℕ) → k < n → f k ≡ g k) → total n f ≡ total n g
unfolding total
total-same zero f g h = refl
total-same (suc n) f g h = λ i. total-same n f g (λ k l. h k (omega arith)) i + h n (omega arith) i

total-zero : (n : ℕ) (f : ℕ → ℕ) → ((k : ℕ) → k < n → f k ≡ 0) → total n f ≡ 0
unfolding total
total-zero zero f h = refl
total-zero (suc n) f h = omega (arith, total-zero n f (λ k l. h k (omega arith)), h n (omega arith))

pub total-add : (m n : ℕ) (f : ℕ → ℕ) → total (m + n) f ≡ total m f + total n (λ k. f (m + k))
unfolding total
total-add m zero f = let sum_is : m + 0 ≡ m = omega arith in ap (λ v. total v f) sum_is ∙ omega arith
total-add m (suc n) f = let sum_is : m + suc n ≡ suc (m + n) = omega arith in ap (λ v. total v f) sum_is ∙ (ap (λ v. v + f (m + n)) (total-add m n f) ∙ omega arith)

pub total-front : (n : ℕ) (f : ℕ → ℕ) → total (suc n) f ≡ f 0 + total n (λ k. f (1 + k))
unfolding total
total-front n f = let successor_is : suc n ≡ 1 + n = omega arith in ap (λ v. total v f) successor_is ∙ (total-add 1 n f ∙ omega arith)

-- n digits before m digits
total-mul : (n m : ℕ) (f : ℕ → ℕ) → total (n * m) f ≡ total n (λ a. total m (λ b. f (a * m + b)))
unfolding total
total-mul zero m f = let product_is : 0 * m ≡ 0 = omega arith in ap (λ v. total v f) product_is
total-mul (suc n) m f =
    let product_is : suc n * m ≡ n * m + m = omega arith in
    ap (λ v. total v f) product_is ∙ (total-add (n * m) m f ∙ ap (λ v. v + total m (λ b. f (n * m + b))) (total-mul n m f))

pub total-plus : (n : ℕ) (f g : ℕ → ℕ) → total n (λ k. f k + g k) ≡ total n f + total n g
unfolding total
total-plus zero f g = refl
total-plus (suc n) f g = omega (arith, total-plus n f g)

total-swap : (n m : ℕ) (g : ℕ → ℕ → ℕ) → total n (λ a. total m (λ b. g a b)) ≡ total m (λ b. total n (λ a. g a b))
unfolding total
total-swap zero m g = sym (total-zero m (λ b. 0) (λ k l. refl))
total-swap (suc n) m g = ap (λ v. v + total m (λ b. g n b)) (total-swap n m g) ∙ sym (total-plus m (λ b. total n (λ a. g a b)) (λ b. g n b))

-- the numbers from m on add nothing
total-front_only : (m n : ℕ) (f : ℕ → ℕ) → m ≤ n → ((k : ℕ) → m ≤ k → k < n → f k ≡ 0) → total n f ≡ total m f
total-front_only m n f l none =
    let n_is : n ≡ m + (n - m) = omega arith in
    let total_is : total (n - m) (λ k. f (m + k)) ≡ 0 = total-zero (n - m) (λ k. f (m + k)) (λ k j. none (m + k) (omega arith) (omega arith)) in
    ap (λ v. total v f) n_is ∙ (total-add m (n - m) f ∙ omega arith)

pub counted : {A : Type 0} (test : A → Bool) (at : ℕ → A) (n a : ℕ)
    → count_by test (map at (numbers_from a n)) ≡ total n (λ k. cond (test (at (a + k))) 1 0)
unfolding total
counted test at zero a = refl
counted test at (suc n) a =
    let sum_is : a + 0 ≡ a = omega arith in
    sum_by-cons (λ c. cond (test c) 1 0) (at a) (map at (numbers_from (a + 1) n))
    ∙ ((λ i. cond (test (at (sym sum_is i))) 1 0 + counted test at n (a + 1) i)
    ∙ (ap (λ v. cond (test (at (a + 0))) 1 0 + v) (total-same n (λ k. cond (test (at (a + 1 + k))) 1 0) (λ k. cond (test (at (a + (1 + k)))) 1 0) (λ k l. ap (λ v. cond (test (at v)) 1 0) (omega arith)))
    ∙ sym (total-front n (λ k. cond (test (at (a + k))) 1 0))))

-- 1 for a test that passes
abbrev pub one_if : Bool → ℕ
one_if b = cond b 1 0

pub counted_from : (test : ℕ → Bool) (n a : ℕ) → count_by test (numbers_from a n) ≡ total n (λ k. one_if (test (a + k)))
unfolding total
counted_from test zero a = refl
counted_from test (suc n) a =
    let a_is : a ≡ a + 0 = omega arith in
    sum_by-cons (λ c. cond (test c) 1 0) a (numbers_from (a + 1) n)
    ∙ ((λ i. one_if (test (a_is i)) + counted_from test n (a + 1) i)
    ∙ (ap (λ v. one_if (test (a + 0)) + v) (total-same n (λ k. one_if (test (a + 1 + k))) (λ k. one_if (test (a + (1 + k)))) (λ k l. ap (λ v. one_if (test v)) (omega arith)))
    ∙ sym (total-front n (λ k. one_if (test (a + k))))))

-- those that pass and those that do not are all
pub both_ways : (n : ℕ) (f : ℕ → Bool) → total n (λ k. one_if (f k)) + total n (λ k. one_if (not (f k))) ≡ n
unfolding total
both_ways zero f = refl
both_ways (suc n) f = omega (arith, both_ways n f, either (f n))
  where
    either : (b : Bool) → one_if b + one_if (not b) ≡ 1
    either true = refl
    either false = refl

-- ---- the bits of a word

small_ones : (v : ℕ) → v < 2 → count_ones v ≡ v
unfolding ones ones_in
small_ones zero l = refl
small_ones (suc zero) l = refl
small_ones (suc (suc v)) l = absurd (omega arith)

pub ones-total : (k w : ℕ) → w < 2 ^ k → count_ones w ≡ total k (λ i. bit_at w i)
unfolding total ones ones_in
ones-total zero w l = let w_is : w ≡ 0 = omega arith in ap count_ones w_is
ones-total (suc k) w l =
    let quotient : ℕ = w / 2 ^ k in
    let remainder : ℕ = w % 2 ^ k in
    let split : quotient * 2 ^ k + remainder ≡ w = shr_split w k in
    let low : remainder < 2 ^ k = mod_below w (2 ^ k) (pow_pos k) in
    let high : quotient < 2 = shr_below w 1 k (let successor_is : suc k ≡ 1 + k = omega arith in rw (← successor_is) l) in
    let top : quotient ≡ bit_at w k = omega arith in
    let rest : total k (λ i. bit_at remainder i) ≡ total k (λ i. bit_at w i) = total-same k (λ i. bit_at remainder i) (λ i. bit_at w i) (λ i j. sym (bit_at_cat_low quotient k remainder i j) ∙ ap (λ v. bit_at v i) split) in
    ap count_ones (sym split) ∙ (ones_cat k quotient remainder low ∙ omega (arith, small_ones quotient high, ones-total k remainder low))

pub as_number : (n k : ℕ) → cond (bit n k) 1 0 ≡ bit_at n k
as_number n k = by (bit_at n k) (bit_at-lt n k)
  where
    by : (v : ℕ) → v < 2 → cond (v == 1) 1 0 ≡ v
    by zero l = refl
    by (suc zero) l = refl
    by (suc (suc v)) l = absurd (omega arith)

-- how many bits of the words are 1 below an index
pub bits_below : List ℕ → ℕ → ℕ
bits_below ws n = total n (λ i. cond (is_set ws i) 1 0)

-- a word adds as many as it has
pub bits_more : (ws : List ℕ) (j w : ℕ) → w ≡ get_or ws j 0 → w < 2 ^ 64
    → bits_below ws (64 * (j + 1)) ≡ bits_below ws (64 * j) + count_ones w
unfolding bits_below is_set
bits_more ws j w e l =
    let next : 64 * (j + 1) ≡ 64 * j + 64 = omega arith in
    ap (λ n. total n (λ i. cond (bit (get_or ws (i / 64) 0) (i % 64)) 1 0)) next
    ∙ (total-add (64 * j) 64 (λ i. cond (bit (get_or ws (i / 64) 0) (i % 64)) 1 0)
    ∙ ap (λ v. total (64 * j) (λ i. cond (bit (get_or ws (i / 64) 0) (i % 64)) 1 0) + v) (total-same 64 (λ i. cond (bit (get_or ws ((64 * j + i) / 64) 0) ((64 * j + i) % 64)) 1 0) (λ i. bit_at w i) here ∙ sym (ones-total 64 w l)))
  where
    here : (i : ℕ) → i < 64 → cond (bit (get_or ws ((64 * j + i) / 64) 0) ((64 * j + i) % 64)) 1 0 ≡ bit_at w i
    here i h =
        let quotient_is : (64 * j + i) / 64 ≡ j = omega arith in
        let remainder_is : (64 * j + i) % 64 ≡ i = omega arith in
        (λ t. cond (bit (get_or ws (quotient_is t) 0) (remainder_is t)) 1 0) ∙ (ap (λ v. cond (bit v i) 1 0) (sym e) ∙ as_number w i)

pub bits_none : (ws : List ℕ) → bits_below ws 0 ≡ 0
unfolding bits_below total
bits_none ws = refl

-- as many bits of all words are 1 as the matrix has full voxels: the bits by y, x and z, the voxels by x, y and z
pub bits_all : (r : ℕ) (ws : List ℕ) → IsLayered r ws
    → bits_below ws (64 * length ws) ≡ count_by (is_full (layered r ws)) (coordinates r)
unfolding bits_below
bits_all r ws h =
    let layer : ℕ = layer_words r * 64 in
    let set : ℕ → ℕ = λ i. one_if (is_set ws i) in
    let full : ℕ → ℕ = λ p. one_if (is_full (layered r ws) (coordinate_at r p)) in
    let words : length ws ≡ r * layer_words r = h.whole in
    let size : 64 * length ws ≡ r * layer = omega (arith, words) in
    ap (λ n. total n set) size
    ∙ (total-mul r layer set
    ∙ (total-same r (λ y. total layer (λ i. set (y * layer + i))) (λ y. total r (λ x. total r (λ z. full ((x * r + y) * r + z)))) one_layer
    ∙ (total-swap r r (λ y x. total r (λ z. full ((x * r + y) * r + z)))
    ∙ (sym (total-mul r r (λ q. total r (λ z. full (q * r + z))))
    ∙ (sym (total-mul (r * r) r full)
    ∙ (total-same (r * r * r) full (λ p. one_if (is_full (layered r ws) (coordinate_at r (0 + p)))) (λ p l. let p_is : p ≡ 0 + p = omega arith in ap full p_is)
    ∙ sym (counted (is_full (layered r ws)) (coordinate_at r) (r * r * r) 0)))))))
  where
    one_voxel : (y x z : ℕ) → y < r → x < r → z < r → one_if (is_set ws (y * (layer_words r * 64) + (x * r + z)))
        ≡ one_if (is_full (layered r ws) (coordinate_at r ((x * r + y) * r + z)))
    one_voxel y x z ly lx lz =
        let place_there : Coord = record { x = x; y = y; z = z } in
        let within : IsInSpace r place_there = record { x = lx; y = ly; z = lz } in
        let y_is : y * (layer_words r * 64) + (x * r + z) ≡ bit_index r place_there = omega arith in
        let sum_is : (x * r + y) * r + z ≡ place r place_there = omega arith in
        ap (λ v. one_if (is_set ws v)) y_is
        ∙ (ap one_if (sym (is_full-layered r ws place_there within))
        ∙ ap (λ d. one_if (is_full (layered r ws) d)) (sym (ap (coordinate_at r) sum_is ∙ coordinate_at-place r place_there within)))

    unused : (y : ℕ) → y < r → (i : ℕ) → r * r ≤ i → i < layer_words r * 64
        → one_if (is_set ws (y * (layer_words r * 64) + i)) ≡ 0
    unused y l i m n = let sum_is : y * (layer_words r * 64) + i ≡ y * layer_words r * 64 + i = omega arith in ap one_if (ap (is_set ws) sum_is ∙ h.unused y i l m n)

    one_layer : (y : ℕ) → y < r → total (layer_words r * 64) (λ i. one_if (is_set ws (y * (layer_words r * 64) + i)))
        ≡ total r (λ x. total r (λ z. one_if (is_full (layered r ws) (coordinate_at r ((x * r + y) * r + z)))))
    one_layer y l =
        total-front_only (r * r) (layer_words r * 64) (λ i. one_if (is_set ws (y * (layer_words r * 64) + i))) (omega arith) (unused y l)
        ∙ (total-mul r r (λ i. one_if (is_set ws (y * (layer_words r * 64) + i)))
        ∙ total-same r (λ x. total r (λ z. one_if (is_set ws (y * (layer_words r * 64) + (x * r + z))))) (λ x. total r (λ z. one_if (is_full (layered r ws) (coordinate_at r ((x * r + y) * r + z))))) (λ x lx.
        total-same r (λ z. one_if (is_set ws (y * (layer_words r * 64) + (x * r + z)))) (λ z. one_if (is_full (layered r ws) (coordinate_at r ((x * r + y) * r + z)))) (λ z lz. one_voxel y x z l lx lz)))

-- a layer takes no more words than it has voxels
pub words_most : (r n : ℕ) → 1 ≤ r → n ≡ r * layer_words r → n ≤ r * r * r
words_most r n h e =
    let one : r ≤ r * r = (let at_most_r : 1 * r ≤ r * r = mul-le-mul h (omega arith) in omega arith) in
    let at_most_product : layer_words r ≤ r * r = omega arith in
    let at_most_r : r * layer_words r ≤ r * (r * r) = mul-le-mul (omega arith) at_most_product in
    omega arith

-- and there are at most a million words
pub words_bound : (r n : ℕ) → r ≤ 400 → n ≡ r * layer_words r → n ≤ 1000000
words_bound r n h e =
    let square : r * r ≤ 400 * 400 = mul-le-mul h h in
    let layer_words_to_2500 : layer_words r ≤ 2500 = omega arith in
    let r_to_2500 : r * layer_words r ≤ 400 * 2500 = mul-le-mul h layer_words_to_2500 in
    omega arith
