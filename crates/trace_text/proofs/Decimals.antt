-- The digits of a byte.
use Rattle.std.proofs.Common.{◌≡◌, ℕ, ◌+◌, ◌/◌, ◌%◌, ◌<◌, ◌≤◌, refl, ◌∙◌, ap, subst, arith, cond, List, [], ◌∷◌}
use Rattle.std.specs.Prelude.{IsTrue, decimal, nat_lt}
use Rattle.std.specs.Fmt.{digits as fmt_digits}
use Rattle.std.specs.List.{list_all}
use Rattle.std.specs.Str.{bytes_eq}
use Rattle.vox_geom.specs.Space.{numbers_from}
use Rattle.vox_geom.proofs.Tests.{test_less, test_not_less}
use Rattle.nano_spec.proofs.Decimals.{at_number, same_bytes}

abbrev text : ℕ → List ℕ
text n = cond (nat_lt n 10) ((48 + n % 10) ∷ []) (cond (nat_lt n 100) ((48 + n / 10 % 10) ∷ (48 + n % 10) ∷ []) ((48 + n / 100) ∷ (48 + n / 10 % 10) ∷ (48 + n % 10) ∷ []))

all_texts : IsTrue (list_all (λ n. bytes_eq (decimal n) (text n)) (numbers_from 0 256))
unfolding fmt_digits
all_texts = refl

decimal_is : (n : ℕ) → n < 256 → decimal n ≡ text n
decimal_is n l = same_bytes (decimal n) (text n) (subst (λ (v : ℕ). IsTrue (bytes_eq (decimal v) (text v))) (omega arith) (at_number (λ v. bytes_eq (decimal v) (text v)) 256 0 n l all_texts))

pub one_digit : (n : ℕ) → n < 10 → decimal n ≡ (48 + n % 10) ∷ []
one_digit n l = decimal_is n (omega arith) ∙ ap (λ t. cond t ((48 + n % 10) ∷ []) (cond (nat_lt n 100) ((48 + n / 10 % 10) ∷ (48 + n % 10) ∷ []) ((48 + n / 100) ∷ (48 + n / 10 % 10) ∷ (48 + n % 10) ∷ []))) (test_less n 10 l)

pub two_digits : (n : ℕ) → 10 ≤ n → n < 100 → decimal n ≡ (48 + n / 10 % 10) ∷ (48 + n % 10) ∷ []
two_digits n l h = let not_less = test_not_less n 10 l in let test_less_here = test_less n 100 h in decimal_is n (omega arith) ∙ rw (not_less, test_less_here) refl

pub three_digits : (n : ℕ) → 100 ≤ n → n < 256 → decimal n ≡ (48 + n / 100) ∷ (48 + n / 10 % 10) ∷ (48 + n % 10) ∷ []
three_digits n l h = let not_less = test_not_less n 10 (omega arith) in let not_less_here = test_not_less n 100 l in decimal_is n h ∙ rw (not_less, not_less_here) refl
