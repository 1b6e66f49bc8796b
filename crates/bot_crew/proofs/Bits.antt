-- Sets of seeds and their lists: a set is the sum of the powers of its seeds, and its least seed is its lowest bit.
use Rattle.std.proofs.Common.{◌≡◌, ℕ, zero, suc, ◌+◌, ◌*◌, ◌-◌, ◌^◌, ◌<◌, ◌≤◌, refl, sym, ◌∙◌, ap, subst, arith, inl, inr, ◌⊎◌, true, false, ◌||◌, ◌&&◌, ◌==◌, List, [], ◌∷◌, ◌++◌, length, fold}
use Rattle.std.specs.Prelude.{filter, count_ones}
use lib.Count.{ones}
use Rattle.std.specs.Int.{bit_at, trailing_zeros}
use Rattle.std.proofs.Common.{w64}
use Rattle.std.proofs.lemmas.Nat.{pow-add, pow_pos, ones_cat}
use Rattle.std.proofs.lemmas.Nat.Bits.{bit_at-lt, bit_at-trailing_zeros, bit_at_above, same_from_bits}
use Rattle.std.proofs.lemmas.Bool.{cases_order}
use Rattle.vox_geom.specs.Space.{numbers_from}
use Rattle.vox_geom.proofs.Truths.{and_false, and_true, or_by_second}
use Rattle.vox_geom.proofs.Tests.{same_bit, test_equal, test_unequal}
use Rattle.vox_geom.proofs.Sums.{two_to_next}
use Rattle.nano_spec.specs.State.{is_seed, seed_list, seed_numbers, seed_set}
use Rattle.step_order.proofs.Lists.{not_both}
use Rattle.nano_spec.proofs.Seeds.{Rising, contains, none_below, seed_is, weaker, numbers_rise, filter_rises, filtered, none_above, same_filter, nothing_left}
use Rattle.nano_spec.proofs.Alike.{list_rises}

-- ---- sums

from : (n : ℕ) (ks : List ℕ) → fold (λ a k. a + 2 ^ k) n ks ≡ n + seed_set ks
from n [] = omega arith
from n (k ∷ ks) = from (n + 2 ^ k) ks ∙ (omega arith ∙ ap (λ v. n + v) (sym (from (0 + 2 ^ k) ks)))

pub seed_more : (k : ℕ) (ks : List ℕ) → seed_set (k ∷ ks) ≡ 2 ^ k + seed_set ks
seed_more k ks = from (0 + 2 ^ k) ks ∙ omega arith

pub seed_join : (xs ys : List ℕ) → seed_set (xs ++ ys) ≡ seed_set xs + seed_set ys
seed_join [] ys = omega arith
seed_join (x ∷ xs) ys = seed_more x (xs ++ ys) ∙ (ap (λ v. 2 ^ x + v) (seed_join xs ys) ∙ (omega arith ∙ ap (λ v. v + seed_set ys) (sym (seed_more x xs))))

multiple : (a : ℕ) (ks : List ℕ) → Rising a ks → (q : ℕ) × (seed_set ks ≡ q * 2 ^ a)
multiple a [] h = (0, omega arith)
multiple a (j ∷ ks) h = by (multiple (j + 1) ks h.1)
  where
    by : (q : ℕ) × (seed_set ks ≡ q * 2 ^ (j + 1)) → (q : ℕ) × (seed_set (j ∷ ks) ≡ q * 2 ^ a)
    by (q, e) =
        let whole : j ≡ (j - a) + a = omega (arith, h.0) in
        let parts : 2 ^ j ≡ 2 ^ (j - a) * 2 ^ a = ap (λ v. 2 ^ v) whole ∙ pow-add 2 (j - a) a in
        ((1 + 2 * q) * 2 ^ (j - a), seed_more j ks ∙ (ap (λ v. 2 ^ j + v) (e ∙ ap (λ v. q * v) (two_to_next j)) ∙ (omega arith ∙ (ap (λ v. (1 + 2 * q) * v) parts ∙ omega arith))))

-- the bit count is the number of seeds
pub ones_are : (a : ℕ) (ks : List ℕ) → Rising a ks → count_ones (seed_set ks) ≡ length ks
unfolding ones
ones_are a [] h = refl
ones_are a (j ∷ ks) h = by (multiple (j + 1) ks h.1) (ones_are (j + 1) ks h.1)
  where
    by : (q : ℕ) × (seed_set ks ≡ q * 2 ^ (j + 1)) → count_ones (seed_set ks) ≡ length ks
        → count_ones (seed_set (j ∷ ks)) ≡ suc (length ks)
    by (q, e) later =
        let above : count_ones (seed_set ks) ≡ count_ones q + count_ones 0 = ap count_ones (e ∙ omega arith) ∙ ones_cat (j + 1) q 0 (pow_pos (j + 1)) in
        let one : 1 < 2 ^ 1 = omega arith in
        let odd : count_ones (q * 2 ^ 1 + 1) ≡ count_ones q + count_ones 1 = ones_cat 1 q 1 one in
        let all : count_ones ((q * 2 ^ 1 + 1) * 2 ^ j + 0) ≡ count_ones (q * 2 ^ 1 + 1) + count_ones 0 = ones_cat j (q * 2 ^ 1 + 1) 0 (pow_pos j) in
        let shape : seed_set (j ∷ ks) ≡ (q * 2 ^ 1 + 1) * 2 ^ j + 0 = seed_more j ks ∙ (ap (λ v. 2 ^ j + v) (e ∙ ap (λ v. q * v) (two_to_next j)) ∙ omega arith) in
        let first : count_ones 1 ≡ 1 = refl in
        let none : count_ones 0 ≡ 0 = refl in
        ap count_ones shape ∙ (all ∙ omega arith)

-- ---- bits

same_seeds : (a b : ℕ) → ((k : ℕ) → is_seed a k ≡ is_seed b k) → a ≡ b
same_seeds a b h = same_from_bits a b (λ i. same_bit (bit_at a i) (bit_at b i) (bit_at-lt a i) (bit_at-lt b i) (h i))

pub no_seed_above : (n w k : ℕ) → n < 2 ^ w → w ≤ k → is_seed n k ≡ false
no_seed_above n w k h l = ap (λ v. v == 1) (bit_at_above n w k h l)

number_in : (a n k : ℕ) → a ≤ k → k < a + n → contains (numbers_from a n) k ≡ true
number_in a zero k l m = absurd (omega arith)
number_in a (suc n) k l m = by (cases_order k a) (λ e. number_in (a + 1) n k (omega arith) (omega arith))
  where
    by : (k ≡ a) ⊎ ((k < a) ⊎ (a < k)) → (a < k → contains (numbers_from (a + 1) n) k ≡ true)
        → (k == a || contains (numbers_from (a + 1) n) k) ≡ true
    by (inl e) later = let k_is_a : (k == a) ≡ true = test_equal k a e in rw k_is_a refl
    by (inr (inl e)) later = absurd (omega arith)
    by (inr (inr e)) later = let k_is_not_a : (k == a) ≡ false = test_unequal k a (λ g. omega arith) in rw k_is_not_a (later e)

all_at : (w n : ℕ) → n < 2 ^ w → seed_set (filter (is_seed n) (numbers_from 0 w)) ≡ n
all_at w n h = same_seeds (seed_set (filter (is_seed n) (numbers_from 0 w))) n (λ k. seed_is 0 (filter (is_seed n) (numbers_from 0 w)) (filter_rises (is_seed n) 0 (numbers_from 0 w) (numbers_rise 0 w)) k ∙ (filtered (is_seed n) (numbers_from 0 w) k ∙ by k (within k)))
  where
    within : (k : ℕ) → (k < w) ⊎ (w ≤ k)
    within k = grind arith

    by : (k : ℕ) → (k < w) ⊎ (w ≤ k) → (is_seed n k && contains (numbers_from 0 w) k) ≡ is_seed n k
    by k (inl l) = ap (λ b. is_seed n k && b) (number_in 0 w k (omega arith) (omega arith)) ∙ and_true (is_seed n k)
    by k (inr l) = ap (λ b. is_seed n k && b) (none_above 0 w k (omega arith)) ∙ (and_false (is_seed n k) ∙ sym (no_seed_above n w k h l))

-- a set is the sum of its list
pub set_of_list : (n : ℕ) → n < 2 ^ 64 → seed_set (seed_list n) ≡ n
unfolding seed_numbers
set_of_list n h = all_at 64 n h

pub same_list : (a b : ℕ) → ((k : ℕ) → is_seed a k ≡ is_seed b k) → seed_list a ≡ seed_list b
unfolding seed_numbers
same_list a b h = same_filter (is_seed a) (is_seed b) 0 64 (λ k l m. h k)

back : (a n : ℕ) (ks : List ℕ) → Rising a ks → ((k : ℕ) → contains ks k ≡ true → k < a + n)
    → filter (contains ks) (numbers_from a n) ≡ ks
back a zero [] h w = refl
back a zero (j ∷ ks) h w = let below_a : j < a + 0 = w j (let same_j : (j == j) ≡ true = test_equal j j refl in rw same_j refl) in absurd (omega (arith, h.0))
back a (suc n) [] h w = nothing_left (λ k. false) a (suc n) (λ k l m. refl)
back a (suc n) (j ∷ ks) h w =
    by (cases_order a j)
    (λ e. back (a + 1) n ks (weaker (j + 1) (a + 1) ks (omega arith) h.1) (λ k g. let below_a : k < a + suc n = w k (or_by_second (k == j) (contains ks k) g) in omega arith))
    (λ l. back (a + 1) n (j ∷ ks) (omega arith, h.1) (λ k g. let below_a : k < a + suc n = w k g in omega arith))
  where
    by : (a ≡ j) ⊎ ((a < j) ⊎ (j < a)) → (a ≡ j → filter (contains ks) (numbers_from (a + 1) n) ≡ ks)
        → (a < j → filter (contains (j ∷ ks)) (numbers_from (a + 1) n) ≡ j ∷ ks)
        → filter (contains (j ∷ ks)) (a ∷ numbers_from (a + 1) n) ≡ j ∷ ks
    by (inl e) at above =
        let here : (a == j) ≡ true = test_equal a j e in
        let one : contains (j ∷ ks) a ≡ true = rw here refl in
        let more : filter (contains (j ∷ ks)) (numbers_from (a + 1) n) ≡ ks = same_filter (contains (j ∷ ks)) (contains ks) (a + 1) n (λ k l m. let k_is_not_j : (k == j) ≡ false = test_unequal k j (λ g. omega arith) in rw k_is_not_j refl) ∙ at e in
        rw one (λ i. e i ∷ more i)
    by (inr (inl l)) at above =
        let none : contains (j ∷ ks) a ≡ false = none_below (a + 1) (j ∷ ks) (omega arith, h.1) a (omega arith) in
        rw none (above l)
    by (inr (inr l)) at above = absurd (omega (arith, h.0))

-- a list is that of its set
pub list_of_set : (ks : List ℕ) → Rising 0 ks → ((k : ℕ) → contains ks k ≡ true → k < 64) → seed_list (seed_set ks) ≡ ks
unfolding seed_numbers
list_of_set ks h w = same_filter (is_seed (seed_set ks)) (contains ks) 0 64 (λ k l m. seed_is 0 ks h k) ∙ back 0 64 ks h w

-- all seeds of a list are below 64
pub list_below : (n k : ℕ) → contains (seed_list n) k ≡ true → k < 64
unfolding seed_numbers
list_below n k e = by (within k)
  where
    within : (k : ℕ) → (k < 64) ⊎ (64 ≤ k)
    within k = grind arith

    by : (k < 64) ⊎ (64 ≤ k) → k < 64
    by (inl l) = l
    by (inr l) = absurd (not_both (sym (filtered (is_seed n) (numbers_from 0 64) k) ∙ e) (ap (λ b. is_seed n k && b) (none_above 0 64 k (omega arith)) ∙ and_false (is_seed n k)))

-- ---- the least seed

fewer : (n j : ℕ) (ks : List ℕ) → n < 2 ^ 64 → seed_list n ≡ j ∷ ks → n ≡ 2 ^ j + seed_set ks
fewer n j ks h e = sym (set_of_list n h) ∙ (ap seed_set e ∙ seed_more j ks)

parts : (n j : ℕ) (ks : List ℕ) → seed_list n ≡ j ∷ ks
    → Rising 0 (j ∷ ks) × ((k : ℕ) → contains (j ∷ ks) k ≡ true → k < 64)
parts n j ks e = (subst (λ v. Rising 0 v) e (list_rises n), λ k f. list_below n k (ap (λ v. contains v k) e ∙ f))

-- the set without its least seed
pub less_is : (n j : ℕ) (ks : List ℕ) → n < 2 ^ 64 → seed_list n ≡ j ∷ ks → (2 ^ j ≤ n) × (seed_list (n - 2 ^ j) ≡ ks)
less_is n j ks h e =
    let n_is : n ≡ 2 ^ j + seed_set ks = fewer n j ks h e in
    let parts_here = parts n j ks e in
    let difference_is : n - 2 ^ j ≡ seed_set ks = omega arith in
    (omega arith, ap seed_list difference_is ∙ list_of_set ks (weaker (j + 1) 0 ks (omega arith) parts_here.0.1) (λ k f. parts_here.1 k (or_by_second (k == j) (contains ks k) f)))

-- the lowest bit is the least seed
pub least_is : (n j : ℕ) (ks : List ℕ) → n < 2 ^ 64 → seed_list n ≡ j ∷ ks → trailing_zeros w64 n ≡ j
least_is n j ks h e = by (cases_order (trailing_zeros w64 n) j) (bit_at-trailing_zeros w64 n some h)
  where
    some : 0 < n
    some = let n_is : n ≡ 2 ^ j + seed_set ks = fewer n j ks h e in omega (arith, pow_pos j)

    seed : (k : ℕ) → is_seed n k ≡ contains (j ∷ ks) k
    seed k = ap (λ v. is_seed v k) (sym (set_of_list n h) ∙ ap seed_set e) ∙ seed_is 0 (j ∷ ks) (parts n j ks e).0 k

    by : (trailing_zeros w64 n ≡ j) ⊎ ((trailing_zeros w64 n < j) ⊎ (j < trailing_zeros w64 n))
        → (trailing_zeros w64 n < 64) × (bit_at n (trailing_zeros w64 n) ≡ 1)
        × ((i : ℕ) → i < trailing_zeros w64 n → bit_at n i ≡ 0) → trailing_zeros w64 n ≡ j
    by (inl f) t = f
    by (inr (inl l)) t = absurd (not_both (ap (λ v. v == 1) t.1) (seed (trailing_zeros w64 n) ∙ none_below j (j ∷ ks) (omega arith, (parts n j ks e).0.1) (trailing_zeros w64 n) l))
    by (inr (inr l)) t = absurd (not_both (seed j ∙ (let same_j : (j == j) ≡ true = test_equal j j refl in rw same_j refl)) (ap (λ v. v == 1) (t.2 j l)))
