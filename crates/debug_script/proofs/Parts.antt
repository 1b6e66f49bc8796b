-- The first part of a line.
use Rattle.std.proofs.Common.{◌≡◌, ℕ, suc, ◌+◌, ◌-◌, ◌<◌, refl, sym, ◌∙◌, ap, subst, arith, Bool, true, false, cond, not, List, [], ◌∷◌, length, drop, take}
use Rattle.std.specs.Prelude.{◌==◌}
use Rattle.std.specs.List.{onto_first, position_or_len, slice_split}
use Rattle.std.proofs.lemmas.List.Splits.{slice_split-cons_no, slice_split_first}
use Rattle.std.proofs.lemmas.List.{take_rest}
use Rattle.debug_script.specs.Script.{line_parts}

abbrev is_space : ℕ → Bool
is_space b = b == 32

whole : (xs : List ℕ) → position_or_len is_space xs ≡ length xs → slice_split is_space xs ≡ xs ∷ []
whole [] e = refl
whole (x ∷ xs) e = by (is_space x) refl e (whole xs)
  where
    by : (t : Bool) → is_space x ≡ t → cond (not t) (1 + position_or_len is_space xs) 0 ≡ suc (length xs)
        → (position_or_len is_space xs ≡ length xs → slice_split is_space xs ≡ xs ∷ [])
        → slice_split is_space (x ∷ xs) ≡ (x ∷ xs) ∷ []
    by true f e later = absurd (omega arith)
    by false f e later = slice_split-cons_no is_space x xs f ∙ ap (onto_first x) (later (omega arith))

-- a line without a space is one part
pub one_part : (xs : List ℕ) (end : ℕ) → end ≡ position_or_len (λ b. b == 32) xs → end ≡ length xs
    → line_parts xs ≡ xs ∷ []
one_part xs end e f = whole xs (sym e ∙ f)

-- a line with a space begins with the part before it
pub first_part : (xs : List ℕ) (end : ℕ) → end ≡ position_or_len (λ b. b == 32) xs → end < length xs
    → line_parts xs ≡ take end xs ∷ line_parts (take (length xs - (end + 1)) (drop (end + 1) xs))
first_part xs end e l =
    let rest_is = take_rest xs (end + 1) in
    let split_first = slice_split_first is_space xs 0 (subst (λ (n : ℕ). n < length xs) e l) in
    rw rest_is (subst (λ (n : ℕ). line_parts xs ≡ take n xs ∷ line_parts (drop (n + 1) xs)) (sym e) split_first)
