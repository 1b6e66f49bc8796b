-- Bytes that a test finds equal, and a test that passes at each of some numbers.
use Rattle.std.proofs.Common.{◌≡◌, ℕ, zero, suc, ◌+◌, ◌<◌, refl, subst, arith, true, ◌==◌, List, [], ◌∷◌}
use Rattle.std.specs.Prelude.{IsTrue, Bool}
use Rattle.std.specs.List.{list_all}
use Rattle.std.specs.Str.{bytes_eq}
use Rattle.std.proofs.lemmas.Bool.Decides.{nat_tests}
use Rattle.vox_geom.specs.Space.{numbers_from}
use Rattle.vox_geom.proofs.Truths.{first_of_two, second_of_two}

pub same_bytes : (xs ys : List ℕ) → IsTrue (bytes_eq xs ys) → xs ≡ ys
same_bytes [] [] h = refl
same_bytes [] (y ∷ ys) h = cc
same_bytes (x ∷ xs) [] h = cc
same_bytes (x ∷ xs) (y ∷ ys) h = let x_is : x ≡ y = head x y (first_of_two (x == y) (bytes_eq xs ys) h) in λ i. x_is i ∷ same_bytes xs ys (second_of_two (x == y) (bytes_eq xs ys) h) i
  where
    head : (a b : ℕ) → (a == b) ≡ true → a ≡ b
    head a b k = grind (arith, nat_tests)

pub at_number : (test : ℕ → Bool) (n a k : ℕ) → k < n → IsTrue (list_all test (numbers_from a n))
    → IsTrue (test (a + k))
at_number test zero a k l h = absurd (omega arith)
at_number test (suc n) a zero l h = subst (λ (v : ℕ). IsTrue (test v)) (omega arith) (first_of_two (test a) (list_all test (numbers_from (a + 1) n)) h)
at_number test (suc n) a (suc k) l h = subst (λ (v : ℕ). IsTrue (test v)) (omega arith) (at_number test n (a + 1) k (omega arith) (second_of_two (test a) (list_all test (numbers_from (a + 1) n)) h))
