-- The length of the run of bytes that pass a test.
use Rattle.std.proofs.Common.{◌≡◌, ℕ, zero, suc, ◌+◌, ◌<◌, ◌≤◌, refl, ◌∙◌, ap, subst, arith, Bool, true, false, cond, List, [], ◌∷◌, length, drop, slice_index_or}
use Rattle.std.specs.List.{prefix_len}
use Rattle.std.proofs.lemmas.List.{drop_all}

at_place : (p : ℕ → Bool) (xs : List ℕ) (n : ℕ) → n < length xs
    → prefix_len p (drop n xs) ≡ cond (p (slice_index_or xs n 0)) (1 + prefix_len p (drop (suc n) xs)) 0
at_place p [] n l = absurd (omega arith)
at_place p (x ∷ xs) zero l = refl
at_place p (x ∷ xs) (suc n) l = at_place p xs n (omega arith)

-- the first n bytes pass
pub record Pass (p : ℕ → Bool) (xs : List ℕ) (n : ℕ) : Type 0 where
  pub run : prefix_len p xs ≡ n + prefix_len p (drop n xs)
  pub within : n ≤ length xs

from_start : (xs : List ℕ) → drop 0 xs ≡ xs
from_start [] = refl
from_start (x ∷ xs) = refl

pub none_yet : (p : ℕ → Bool) (xs : List ℕ) → Pass p xs 0
none_yet p xs = let same_prefix_len : prefix_len p (drop 0 xs) ≡ prefix_len p xs = ap (prefix_len p) (from_start xs) in record { run = omega (arith, same_prefix_len); within = omega arith }

pub passes_on : (p : ℕ → Bool) (xs : List ℕ) (n : ℕ) → Pass p xs n → n < length xs → p (slice_index_or xs n 0) ≡ true
    → Pass p xs (n + 1)
passes_on p xs n h l e =
    let at_place_here = at_place p xs n l in
    let same_prefix_len : prefix_len p (drop n xs) ≡ 1 + prefix_len p (drop (suc n) xs) = at_place_here ∙ ap (λ t. cond t (1 + prefix_len p (drop (suc n) xs)) 0) e in
    let successor_is : suc n ≡ n + 1 = omega arith in
    let its_run = h.run in
    record {
      run = subst (λ (m : ℕ). prefix_len p xs ≡ m + prefix_len p (drop m xs)) successor_is (omega (arith, its_run, same_prefix_len));
      within = omega arith;
    }

pub stops_at : (p : ℕ → Bool) (xs : List ℕ) (n : ℕ) → Pass p xs n → n < length xs → p (slice_index_or xs n 0) ≡ false
    → n ≡ prefix_len p xs
stops_at p xs n h l e =
    let at_place_here = at_place p xs n l in
    let prefix_len_is : prefix_len p (drop n xs) ≡ 0 = at_place_here ∙ ap (λ t. cond t (1 + prefix_len p (drop (suc n) xs)) 0) e in
    let run = h.run in
    omega (arith, run, prefix_len_is)

pub ends_at : (p : ℕ → Bool) (xs : List ℕ) (n : ℕ) → Pass p xs n → length xs ≤ n → n ≡ prefix_len p xs
ends_at p xs n h l =
    let prefix_len_is : prefix_len p (drop n xs) ≡ 0 = ap (prefix_len p) (drop_all n xs l) in
    let run = h.run in
    omega (arith, run, prefix_len_is)
