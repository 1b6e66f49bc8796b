-- A word whose bits are set one by one.
use Rattle.std.proofs.Common.{◌≡◌, ℕ, ◌+◌, ◌-◌, ◌*◌, ◌%◌, ◌^◌, ◌<◌, ◌≤◌, refl, sym, ◌∙◌, ap, subst, inl, inr, ◌⊎◌, arith, Bool, true, false, cond, ◌==◌}
use Rattle.std.proofs.Math.Nat.{mod-eq_of_lt, mul-le-mul, pow-le-pow_right}
use Rattle.std.proofs.lemmas.Bool.{cases_lt}
use Rattle.std.proofs.lemmas.Nat.{pow-add}
use Rattle.std.proofs.lemmas.Nat.Bits.{bit_at_cat_high, bit_at_cat_low}
use Rattle.nano_spec.specs.Model.{bit}

-- the bits below k are those of a test, and there is none above
pub record IsWord (w k : ℕ) (test : ℕ → Bool) : Type 0 where
  pub bits : (j : ℕ) → j < k → bit w j ≡ test j
  pub below : w < 2 ^ k

-- one more bit
pub word_more : (w k v : ℕ) (test : ℕ → Bool) (b : Bool) → IsWord w k test → k < 64 → v ≡ cond b 1 0 → b ≡ test k
    → IsWord (w + v * 2 ^ k % 2 ^ 64) (k + 1) test
word_more w k v test b h l ev eb = record {
  bits = λ j m. ap (λ n. bit n j) is ∙ by j (cases_lt j k) m;
  below = subst (λ (n : ℕ). n < 2 ^ (k + 1)) (sym is) sum_below;
}
  where
    small : (c : Bool) → cond c 1 0 ≤ 1
    small true = omega arith
    small false = omega arith

    few : v ≤ 1
    few = omega (arith, small b)

    power : 2 ^ (k + 1) ≡ 2 ^ k * 2
    power = pow-add 2 k 1

    some : v * 2 ^ k ≤ 1 * 2 ^ k
    some = let same : 2 ^ k ≤ 2 ^ k = omega arith in mul-le-mul few same

    most : 2 ^ (k + 1) ≤ 2 ^ 64
    most = let next : k + 1 ≤ 64 = omega arith in pow-le-pow_right {n = 2} (omega arith) next

    sum_below : v * 2 ^ k + w < 2 ^ (k + 1)
    sum_below = omega (arith, h.below, power, some)

    is : w + v * 2 ^ k % 2 ^ 64 ≡ v * 2 ^ k + w
    is = ap (λ n. w + n) (mod-eq_of_lt (omega (arith, h.below, power, some, most))) ∙ omega arith

    digit : (c : Bool) → bit (cond c 1 0) 0 ≡ c
    digit true = refl
    digit false = refl

    by : (j : ℕ) → ((j < k) ⊎ (k ≤ j)) → j < k + 1 → bit (v * 2 ^ k + w) j ≡ test j
    by j (inl m) n = ap (λ d. d == 1) (bit_at_cat_low v k w j m) ∙ h.bits j m
    by j (inr m) n =
        let here : j ≡ k = omega arith in
        let none : j - k ≡ 0 = omega arith in
        ap (λ d. d == 1) (bit_at_cat_high v k w j h.below m)
        ∙ ((λ i. bit (ev i) (none i)) ∙ (digit b ∙ (eb ∙ ap test (sym here))))
