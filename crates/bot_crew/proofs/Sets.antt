-- The code's operations on sets of seeds.
use Rattle.std.proofs.Common.{◌≡◌, ℕ, zero, suc, ◌+◌, ◌*◌, ◌-◌, ◌%◌, ◌^◌, ◌<◌, ◌≤◌, refl, sym, ◌∙◌, ap, subst, arith, inl, inr, ◌⊎◌, Bool, ◌||◌, ◌==◌, List, [], ◌∷◌, length, take, drop, bit_or, take-append-drop, w64}
use Rattle.std.specs.Prelude.{filter, count_ones, max, slice_index}
use Rattle.std.specs.Int.{bit_at, trailing_zeros}
use Rattle.std.proofs.lemmas.Nat.{pow-add, pow_pos, one_shl, or_lt}
use Rattle.std.proofs.Math.Pow.{pow_mono, pow-lt}
use Rattle.std.proofs.lemmas.Nat.Bits.{bit_at-trailing_zeros, bit_at-lt, bit_at_or, bit_at-pow_same, bit_at-pow_other}
use Rattle.std.proofs.lemmas.Bool.{cases_order}
use Rattle.std.proofs.lemmas.Bool.Decides.{nat_tests}
use Rattle.std.proofs.lemmas.List.{drop-drop}
use Rattle.vox_geom.specs.Space.{numbers_from, numbers_below}
use Rattle.vox_geom.proofs.Tests.{test_equal, test_unequal}
use Rattle.nano_spec.specs.State.{is_seed, seed_list, seed_numbers, seed_set}
use Rattle.nano_spec.proofs.Seeds.{same_filter}
use Rattle.nano_spec.proofs.Alike.{list_rises}
use Rattle.bot_crew.proofs.Bits.{seed_more, seed_join, set_of_list, less_is, least_is, ones_are}

pub ones_of : (n : ℕ) → n < 2 ^ 64 → count_ones n ≡ length (seed_list n)
ones_of n h = ap count_ones (sym (set_of_list n h)) ∙ ones_are 0 (seed_list n) (list_rises n)

-- without the least seed
module _ (n : ℕ) (h : n < 2 ^ 64) where
  pub bit_within : (ks : List ℕ) → seed_list n ≡ ks → 0 < length ks → trailing_zeros w64 n < 64
  bit_within [] e l = absurd (omega arith)
  bit_within (j ∷ ks) e l = let least_facts = less_is n j ks h e in (bit_at-trailing_zeros w64 n (omega (arith, least_facts.0, pow_pos j)) h).0

  shifted : (j : ℕ) (ks : List ℕ) → seed_list n ≡ j ∷ ks → 1 * 2 ^ trailing_zeros w64 n % 2 ^ 64 ≡ 2 ^ j
  shifted j ks e = one_shl (trailing_zeros w64 n) 64 (bit_within (j ∷ ks) e (omega arith)) ∙ ap (λ v. 2 ^ v) (least_is n j ks h e)

  pub bit_less : (ks : List ℕ) → seed_list n ≡ ks → 0 < length ks → 1 * 2 ^ trailing_zeros w64 n % 2 ^ 64 ≤ n
  bit_less [] e l = absurd (omega arith)
  bit_less (j ∷ ks) e l = let least_facts = (less_is n j ks h e).0 in let shifted_here = shifted j ks e in omega (arith, least_facts, shifted_here)

  pub without_is : (ks : List ℕ) → seed_list n ≡ ks → 0 < length ks
      → seed_list (n - 1 * 2 ^ trailing_zeros w64 n % 2 ^ 64) ≡ drop 1 ks
  without_is [] e l = absurd (omega arith)
  without_is (j ∷ ks) e l = ap (λ v. seed_list (n - v)) (shifted j ks e) ∙ (less_is n j ks h e).1

  pub first_is : (ks : List ℕ) → seed_list n ≡ ks → 0 < length ks → trailing_zeros w64 n ≡ slice_index ks 0
  first_is [] e l = absurd (omega arith)
  first_is (j ∷ ks) e l = least_is n j ks h e

-- the seeds between those that were dropped first and last
pub between_is : (later kept m : ℕ) (ks : List ℕ) → later < 2 ^ 64 → kept < 2 ^ 64 → seed_list later ≡ drop 1 ks
    → seed_list kept ≡ drop (1 + m) ks
    → (kept ≤ later) × (later - kept ≡ seed_set (take m (drop 1 ks))) × (kept ≡ seed_set (drop (m + 1) ks))
between_is later kept m ks h g e f =
    let later_is : later ≡ seed_set (drop 1 ks) = sym (set_of_list later h) ∙ ap seed_set e in
    let kept_is : kept ≡ seed_set (drop (1 + m) ks) = sym (set_of_list kept g) ∙ ap seed_set f in
    let sum_is : seed_set (take m (drop 1 ks)) + seed_set (drop m (drop 1 ks)) ≡ seed_set (drop 1 ks) = sym (seed_join (take m (drop 1 ks)) (drop m (drop 1 ks))) ∙ ap seed_set (take-append-drop m (drop 1 ks)) in
    let seed_set_is : seed_set (drop m (drop 1 ks)) ≡ seed_set (drop (1 + m) ks) = ap seed_set (drop-drop m 1 ks) in
    let same_seed_set : seed_set (drop (1 + m) ks) ≡ seed_set (drop (m + 1) ks) = ap (λ v. seed_set (drop v ks)) (omega arith) in
    (omega arith, omega arith, kept_is ∙ same_seed_set)

-- consecutive seeds
row_is : (a n : ℕ) → seed_set (numbers_from a n) + 2 ^ a ≡ 2 ^ (a + n)
row_is a zero = let sum_is : a + zero ≡ a = omega arith in omega (arith, ap (λ v. 2 ^ v) sum_is)
row_is a (suc n) =
    let seed_set_is : seed_set (a ∷ numbers_from (a + 1) n) ≡ 2 ^ a + seed_set (numbers_from (a + 1) n) = seed_more a (numbers_from (a + 1) n) in
    let power_is : 2 ^ (a + 1) ≡ 2 ^ a * 2 = pow-add 2 a 1 in
    let row_sum = row_is (a + 1) n in
    let sum_is : a + 1 + n ≡ a + suc n = omega arith in
    omega (arith, row_sum, ap (λ v. 2 ^ v) sum_is)

pub first_row : (n : ℕ) → n ≤ 39 → (1 * 2 ^ n % 2 ^ 64 - 1) * 4 % 2 ^ 64 ≡ seed_set (drop 2 (numbers_below (n + 2)))
first_row n h =
    let most : 2 ^ n ≤ 2 ^ 39 = pow_mono h in
    let some : 0 < 2 ^ n = pow_pos n in
    let one : 1 * 2 ^ n % 2 ^ 64 ≡ 2 ^ n = one_shl n 64 (omega arith) in
    let row : seed_set (numbers_from 2 n) + 2 ^ 2 ≡ 2 ^ (2 + n) = row_is 2 n in
    let four : 2 ^ (2 + n) ≡ 2 ^ 2 * 2 ^ n = pow-add 2 2 n in
    let whole : n + 2 ≡ suc (suc n) = omega arith in
    let list : seed_set (drop 2 (numbers_below (n + 2))) ≡ seed_set (numbers_from 2 n) = ap (λ v. seed_set (drop 2 (numbers_below v))) whole in
    let value : (2 ^ n - 1) * 4 % 2 ^ 64 ≡ seed_set (numbers_from 2 n) = omega arith in
    ap (λ v. (v - 1) * 4 % 2 ^ 64) one ∙ (value ∙ sym list)

-- ---- the seeds of two sets, and one more

either_bit : (a b : ℕ) → a < 2 → b < 2 → (max a b == 1) ≡ (a == 1 || b == 1)
either_bit a b p q = grind (arith, nat_tests)

or_seed : (a b k : ℕ) → is_seed (bit_or a b) k ≡ (is_seed a k || is_seed b k)
or_seed a b k = ap (λ v. v == 1) (bit_at_or a b k) ∙ either_bit (bit_at a k) (bit_at b k) (bit_at-lt a k) (bit_at-lt b k)

pow_seed : (j k : ℕ) → is_seed (2 ^ j) k ≡ (k == j)
pow_seed j k = by (cases_order k j)
  where
    other : (k ≡ j → ⊥) → is_seed (2 ^ j) k ≡ (k == j)
    other ne = ap (λ v. v == 1) (bit_at-pow_other j k ne) ∙ sym (test_unequal k j ne)

    by : (k ≡ j) ⊎ ((k < j) ⊎ (j < k)) → is_seed (2 ^ j) k ≡ (k == j)
    by (inl e) = subst (λ v. is_seed (2 ^ v) k ≡ (k == v)) e (ap (λ v. v == 1) (bit_at-pow_same k) ∙ sym (test_equal k k refl))
    by (inr (inl l)) = other (λ e. omega arith)
    by (inr (inr l)) = other (λ e. omega arith)

pub union_seed : (a b j k : ℕ) → is_seed (bit_or (bit_or a b) (2 ^ j)) k ≡ (is_seed a k || is_seed b k || k == j)
union_seed a b j k = or_seed (bit_or a b) (2 ^ j) k ∙ (ap (λ v. v || is_seed (2 ^ j) k) (or_seed a b k) ∙ ap (λ v. is_seed a k || is_seed b k || v) (pow_seed j k))

same_numbers : (p q : ℕ → Bool) → ((k : ℕ) → p k ≡ q k) → filter p seed_numbers ≡ filter q seed_numbers
unfolding seed_numbers
same_numbers p q h = same_filter p q 0 64 (λ k l m. h k)

pub union_is : (a b j : ℕ) → a < 2 ^ 64 → b < 2 ^ 64 → j < 64 → bit_or (bit_or a b) (1 * 2 ^ j % 2 ^ 64)
    ≡ seed_set (filter (λ k. is_seed a k || is_seed b k || k == j) seed_numbers)
union_is a b j h g l =
    let one : 1 * 2 ^ j % 2 ^ 64 ≡ 2 ^ j = one_shl j 64 l in
    let small : 2 ^ j < 2 ^ 64 = pow-lt l in
    ap (λ v. bit_or (bit_or a b) v) one
    ∙ (sym (set_of_list (bit_or (bit_or a b) (2 ^ j)) (or_lt 64 (bit_or a b) (2 ^ j) (or_lt 64 a b h g) small))
    ∙ ap seed_set (same_numbers (is_seed (bit_or (bit_or a b) (2 ^ j))) (λ k. is_seed a k || is_seed b k || k == j) (union_seed a b j)))
