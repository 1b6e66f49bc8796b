-- The first line of a text.
use Rattle.std.proofs.Common.{◌≡◌, ℕ, suc, ◌+◌, ◌-◌, ◌<◌, refl, sym, ◌∙◌, ap, subst, arith, Bool, true, false, cond, not, List, [], ◌∷◌, length, drop, take}
use Rattle.std.specs.Prelude.{◌==◌, ⊤}
use Rattle.std.specs.List.{before_first, after_first, onto_first, position_or_len, slice_split}
use Rattle.std.proofs.lemmas.List.Splits.{slice_split-cons_no, slice_split_first}
use Rattle.std.proofs.lemmas.List.{take_rest}
use Rattle.nano_spec.specs.Reading.{lines, without_last_empty}

abbrev is_feed : ℕ → Bool
is_feed b = b == 10

whole : (xs : List ℕ) → position_or_len is_feed xs ≡ length xs → slice_split is_feed xs ≡ xs ∷ []
whole [] e = refl
whole (x ∷ xs) e = by (is_feed x) refl e (whole xs)
  where
    by : (t : Bool) → is_feed x ≡ t → cond (not t) (1 + position_or_len is_feed xs) 0 ≡ suc (length xs)
        → (position_or_len is_feed xs ≡ length xs → slice_split is_feed xs ≡ xs ∷ [])
        → slice_split is_feed (x ∷ xs) ≡ (x ∷ xs) ∷ []
    by true f e later = absurd (omega arith)
    by false f e later = slice_split-cons_no is_feed x xs f ∙ ap (onto_first x) (later (omega arith))

-- a text that is not empty and has no line feed is one line
pub last_line : (xs : List ℕ) (end : ℕ) → 0 < length xs → end ≡ position_or_len (λ b. b == 10) xs → end ≡ length xs
    → lines xs ≡ xs ∷ lines []
last_line [] end l e f = absurd (omega arith)
last_line (x ∷ xs) end l e f = ap without_last_empty (whole (x ∷ xs) (sym e ∙ f))

abbrev IsSome : List (List ℕ) → Type 0
IsSome [] = ⊥
IsSome (x ∷ xs) = ⊤

some : (xs : List ℕ) → IsSome (slice_split is_feed xs)
some [] = tt
some (x ∷ xs) = two (is_feed x) (slice_split is_feed xs) (some xs)
  where
    two : (t : Bool) (ys : List (List ℕ)) → IsSome ys → IsSome (cond t ([] ∷ ys) (onto_first x ys))
    two true ys h = tt
    two false [] h = absurd h
    two false (y ∷ ys) h = tt

kept_before : (a : List ℕ) (ys : List (List ℕ)) → IsSome ys → without_last_empty (a ∷ ys) ≡ a ∷ without_last_empty ys
kept_before a [] h = absurd h
kept_before [] (y ∷ ys) h = refl
kept_before (b ∷ a) (y ∷ ys) h = refl

kept : (a : List ℕ) (xs : List ℕ)
    → without_last_empty (a ∷ slice_split is_feed xs) ≡ a ∷ without_last_empty (slice_split is_feed xs)
kept a xs = kept_before a (slice_split is_feed xs) (some xs)

-- a text with a line feed begins with the line before it
pub first_line : (xs : List ℕ) (end : ℕ) → end ≡ position_or_len (λ b. b == 10) xs → end < length xs
    → lines xs ≡ take end xs ∷ lines (take (length xs - (end + 1)) (drop (end + 1) xs))
first_line xs end e l =
    let rest_is = take_rest xs (end + 1) in
    let slice_split_is : slice_split is_feed xs ≡ before_first is_feed xs ∷ slice_split is_feed (after_first is_feed xs) = slice_split_first is_feed xs 0 (subst (λ (n : ℕ). n < length xs) e l) in
    let lines_is : lines xs ≡ take (position_or_len is_feed xs) xs ∷ lines (drop (position_or_len is_feed xs + 1) xs) = ap without_last_empty slice_split_is ∙ kept (before_first is_feed xs) (after_first is_feed xs) in
    rw rest_is (subst (λ (n : ℕ). lines xs ≡ take n xs ∷ lines (drop (n + 1) xs)) (sym e) lines_is)
