-- The facts behind tests of numbers, and the results of the tests.
use Rattle.std.proofs.Common.{◌≡◌, ℕ, ◌+◌, ◌-◌, ◌<◌, ◌≤◌, arith, true, false, ◌&&◌, not}
use Rattle.std.specs.Prelude.{◌==◌, nat_lt, nat_le}
use Rattle.std.proofs.lemmas.Bool.Decides.{nat_tests}

pub equal_by_test : (a b : ℕ) → (a == b) ≡ true → a ≡ b
equal_by_test a b e = grind (arith, nat_tests)

pub test_equal : (a b : ℕ) → a ≡ b → (a == b) ≡ true
test_equal a b e = grind (arith, nat_tests)

pub test_itself : (a : ℕ) → (a == a) ≡ true
test_itself a = grind (arith, nat_tests)

pub test_unequal : (a b : ℕ) → (a ≡ b → ⊥) → (a == b) ≡ false
test_unequal a b n = grind (arith, nat_tests)

pub unequal_by_test : (a b : ℕ) → (a == b) ≡ false → a ≡ b → ⊥
unequal_by_test a b e = grind (arith, nat_tests)

pub less_by_test : (a b : ℕ) → nat_lt a b ≡ true → a < b
less_by_test a b e = grind (arith, nat_tests)

pub test_less : (a b : ℕ) → a < b → nat_lt a b ≡ true
test_less a b l = grind (arith, nat_tests)

pub not_less_by_test : (a b : ℕ) → nat_lt a b ≡ false → b ≤ a
not_less_by_test a b e = grind (arith, nat_tests)

pub test_not_less : (a b : ℕ) → b ≤ a → nat_lt a b ≡ false
test_not_less a b l = grind (arith, nat_tests)

pub at_most_by_test : (a b : ℕ) → nat_le a b ≡ true → a ≤ b
at_most_by_test a b e = grind (arith, nat_tests)

pub test_at_most : (a b : ℕ) → a ≤ b → nat_le a b ≡ true
test_at_most a b l = grind (arith, nat_tests)

pub not_at_most_by_test : (a b : ℕ) → nat_le a b ≡ false → b + 1 ≤ a
not_at_most_by_test a b e = grind (arith, nat_tests)

pub between_by_tests : (a low high : ℕ) → (nat_le low a && nat_le a high) ≡ true → (low ≤ a) × (a ≤ high)
between_by_tests a low high e = grind (arith, nat_tests)

pub zero_by_test : (a : ℕ) → (a == 0) ≡ true → a ≡ 0
zero_by_test a e = grind (arith, nat_tests)

pub positive_by_test : (a : ℕ) → (a == 0) ≡ false → 0 < a
positive_by_test a e = grind (arith, nat_tests)

pub same_bit : (a b : ℕ) → a < 2 → b < 2 → (a == 1) ≡ (b == 1) → a ≡ b
same_bit a b l m e = grind (arith, nat_tests)

pub other_bit : (a : ℕ) → a < 2 → (1 - a == 1) ≡ not (a == 1)
other_bit a l = grind (arith, nat_tests)
