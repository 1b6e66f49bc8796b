-- The words of a chunk in which every offset has one.
use Rattle.std.specs.Prelude.{◌≡◌, ℕ, ◌<◌, Bool, true, false, List, [], ◌∷◌, Option, Some, None, length, slice_index_or}

abbrev pub word_or_zero : Option ℕ → ℕ
word_or_zero (Some word) = word
word_or_zero None = 0

abbrev pub known : List (Option ℕ) → List ℕ
known [] = []
known (place ∷ places) = word_or_zero place ∷ known places

abbrev pub is_word : Option ℕ → Bool
is_word (Some word) = true
is_word None = false

abbrev pub AllFilled : List (Option ℕ) → Type 0
AllFilled places = (k : ℕ) → k < length places → is_word (slice_index_or places k None) ≡ true
