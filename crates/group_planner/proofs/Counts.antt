-- Sums over the numbers below an end.
use Rattle.std.proofs.Common.{◌≡◌, ℕ, zero, suc, ◌+◌, ◌-◌, ◌*◌, ◌<◌, ◌≤◌, refl, ◌∙◌, ap, arith, Bool, true, false, [], ◌∷◌, ◌++◌}
use Rattle.std.specs.Prelude.{sum_by}
use Rattle.std.proofs.lemmas.List.Sums.{sum_by_push}
use Rattle.vox_geom.specs.Space.{numbers_below, numbers_from}
use Rattle.group_planner.specs.Rows.{count_below, one_if, sum_below}

numbers_push : (a n : ℕ) → numbers_from a (suc n) ≡ numbers_from a n ++ (a + n) ∷ []
numbers_push a zero = let a_is : a ≡ a + 0 = omega arith in ap (λ k. k ∷ []) a_is
numbers_push a (suc n) = ap (λ xs. a ∷ xs) (numbers_push (a + 1) n ∙ ap (λ k. numbers_from (a + 1) n ++ k ∷ []) (let sum_is : a + 1 + n ≡ a + suc n = omega arith in sum_is))

pub sum_below-zero : (f : ℕ → ℕ) → sum_below f 0 ≡ 0
unfolding sum_below
sum_below-zero f = refl

pub sum_below-suc : (f : ℕ → ℕ) (n : ℕ) → sum_below f (suc n) ≡ sum_below f n + f n
unfolding sum_below
sum_below-suc f n = ap (sum_by f) (numbers_push 0 n) ∙ (sum_by_push f (numbers_below n) (0 + n) ∙ ap (λ k. sum_by f (numbers_below n) + f k) (let sum_is : 0 + n ≡ n = omega arith in sum_is))

pub sum_below-more : (f : ℕ → ℕ) (n : ℕ) → sum_below f (n + 1) ≡ sum_below f n + f n
sum_below-more f n = (let sum_is : n + 1 ≡ suc n = omega arith in ap (sum_below f) sum_is) ∙ sum_below-suc f n

-- if the function is 0 from one number on and before another, the sum does not change
sum_below-gap_by : (f : ℕ → ℕ) (a n : ℕ) → ((k : ℕ) → a ≤ k → k < a + n → f k ≡ 0) → sum_below f (a + n) ≡ sum_below f a
sum_below-gap_by f a zero h = (let sum_is : a + 0 ≡ a = omega arith in ap (sum_below f) sum_is)
sum_below-gap_by f a (suc n) h =
    let sum_is : a + suc n ≡ suc (a + n) = omega arith in
    let rest = sum_below-gap_by f a n (λ k l m. h k l (omega arith)) in
    let last = h (a + n) (omega arith) (omega arith) in
    ap (sum_below f) sum_is ∙ (sum_below-suc f (a + n) ∙ omega (arith, rest, last))

pub sum_below-gap : (f : ℕ → ℕ) (a b : ℕ) → a ≤ b → ((k : ℕ) → a ≤ k → k < b → f k ≡ 0) → sum_below f b ≡ sum_below f a
sum_below-gap f a b l h = (let b_is : b ≡ a + (b - a) = omega arith in ap (sum_below f) b_is) ∙ sum_below-gap_by f a (b - a) (λ k p q. h k p (omega arith))

-- the sum rises
sum_below-rises_by : (f : ℕ → ℕ) (a n : ℕ) → sum_below f a ≤ sum_below f (a + n)
sum_below-rises_by f a zero = (let sum_is : a + 0 ≡ a = omega arith in let same_sum = ap (sum_below f) sum_is in omega (arith, same_sum))
sum_below-rises_by f a (suc n) =
    let sum_is : a + suc n ≡ suc (a + n) = omega arith in
    let same_sum = ap (sum_below f) sum_is ∙ sum_below-suc f (a + n) in
    let rest = sum_below-rises_by f a n in
    omega (arith, same_sum, rest)

pub sum_below-rises : (f : ℕ → ℕ) (a b : ℕ) → a ≤ b → sum_below f a ≤ sum_below f b
sum_below-rises f a b l = let sum_is : a + (b - a) ≡ b = omega arith in let same_sum = ap (sum_below f) sum_is in let sum_rises = sum_below-rises_by f a (b - a) in omega (arith, same_sum, sum_rises)

-- each of its numbers is at most the sum
pub one_of_sum : (f : ℕ → ℕ) (k n : ℕ) → k < n → f k ≤ sum_below f n
one_of_sum f k n l = let sum_rises = sum_below-rises f (k + 1) n (omega arith) in let sum_more = sum_below-more f k in omega (arith, sum_rises, sum_more)

-- a sum of numbers up to a bound
pub sum_below-most : (f : ℕ → ℕ) (n most : ℕ) → ((k : ℕ) → f k ≤ most) → sum_below f n ≤ n * most
sum_below-most f zero most h = let sum_zero = sum_below-zero f in omega (arith, sum_zero)
sum_below-most f (suc n) most h = let sum_more = sum_below-suc f n in let sum_bound = sum_below-most f n most h in let l = h n in omega (arith, sum_more, sum_bound, l)

pub at_most_one : (b : Bool) → one_if b ≤ 1
at_most_one true = omega arith
at_most_one false = omega arith

pub count_below-most : (test : ℕ → Bool) (n : ℕ) → count_below test n ≤ n
count_below-most test n = let sum_bound = sum_below-most (λ k. one_if (test k)) n 1 (λ k. at_most_one (test k)) in omega (arith, sum_bound)
