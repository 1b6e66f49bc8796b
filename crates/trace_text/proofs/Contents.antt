-- The meaning of a line by its word.
use Rattle.std.proofs.Common.{◌≡◌, ℕ, suc, ◌+◌, ◌<◌, refl, sym, ◌∙◌, ap, arith, Bool, true, false, cond, ◌&&◌, List, [], ◌∷◌, length, drop}
use Rattle.std.specs.Prelude.{Some, None, IsAscii, ◌==◌, ◌||◌, find, nat_lt, take_while}
use Rattle.std.specs.List.{list_all, prefix_len}
use Rattle.std.specs.Str.{bytes_eq}
use Rattle.std.proofs.lemmas.Bool.Decides.{nat_tests}
use Rattle.nano_spec.specs.Line.{Line, Skipped, Faulty, UnknownWord, line_content, has_high_byte, line_of, said, said_by, word_of, after_word, from_word}
use Rattle.nano_spec.specs.LineForm.{Word, is_blank, is_letter, readings, words}

some_no_zero : (n : ℕ) → (suc n == 0) ≡ false
some_no_zero n = grind (arith, nat_tests)

all_blank : (xs : List ℕ) → list_all is_blank xs ≡ (length (drop (prefix_len is_blank xs) xs) == 0)
all_blank [] = refl
all_blank (x ∷ xs) = by (is_blank x) (all_blank xs)
  where
    one_more : suc (prefix_len is_blank xs) ≡ 1 + prefix_len is_blank xs
    one_more = omega arith

    by : (t : Bool) → list_all is_blank xs ≡ (length (drop (prefix_len is_blank xs) xs) == 0)
        → (t && list_all is_blank xs) ≡ (length (drop (cond t (1 + prefix_len is_blank xs) 0) (x ∷ xs)) == 0)
    by true later = later ∙ ap (λ (n : ℕ). length (drop n (x ∷ xs)) == 0) one_more
    by false later = sym (some_no_zero (length xs))

pub no_high : (bs : List ℕ) → IsAscii bs → has_high_byte bs ≡ false
no_high [] h = refl
no_high (b ∷ bs) h = by (nat_lt 127 b) refl (no_high bs (λ i. h (suc i)))
  where
    lower : b < 128
    lower = h 0

    contrary : nat_lt 127 b ≡ true → ⊥
    contrary e = let b_from_127 : 127 < b = grind (arith, nat_tests) in let lower_here = lower in absurd (omega (arith, b_from_127, lower_here))

    by : (t : Bool) → nat_lt 127 b ≡ t → has_high_byte bs ≡ false → (t || has_high_byte bs) ≡ false
    by true e later = absurd (contrary e)
    by false e later = later

-- the line's parts, in the reader's form
pub record HasParts (line middle rest : List ℕ) : Type 0 where
  pub low : has_high_byte line ≡ false
  pub middle_is : middle ≡ line_content line
  pub rest_is : rest ≡ drop (prefix_len is_blank middle) middle

pub skipped : (line middle rest : List ℕ) → HasParts line middle rest → true ≡ (length rest == 0)
    → Skipped ≡ line_of line
skipped line middle rest h e =
    let rest_is : rest ≡ from_word (line_content line) = h.rest_is ∙ ap from_word h.middle_is in
    let list_all_holds : list_all is_blank (line_content line) ≡ true = all_blank (line_content line) ∙ (ap (λ xs. length xs == 0) (sym rest_is) ∙ sym e) in
    let low = h.low in
    rw (low, list_all_holds) refl

by_word : (line middle rest : List ℕ) → HasParts line middle rest → false ≡ (length rest == 0)
    → said_by (word_of rest) (after_word rest) ≡ line_of line
by_word line middle rest h e =
    let rest_is : rest ≡ from_word (line_content line) = h.rest_is ∙ ap from_word h.middle_is in
    let not_list_all : list_all is_blank (line_content line) ≡ false = all_blank (line_content line) ∙ (ap (λ xs. length xs == 0) (sym rest_is) ∙ sym e) in
    let low = h.low in
    rw (low, not_list_all) (ap (λ xs. said_by (word_of xs) (after_word xs)) rest_is)

pub says : (line middle rest word more : List ℕ) (w : Word) (s : Line) → HasParts line middle rest
    → false ≡ (length rest == 0) → word ≡ take_while is_letter rest → more ≡ drop (prefix_len is_letter rest) rest
    → Some w ≡ find (λ v. bytes_eq v.letters word) words → s ≡ said w (readings w.form more) → s ≡ line_of line
says line middle rest word more w s h e f g k i =
    let some_is : Some w ≡ word_of rest = k ∙ ap (λ xs. find (λ v. bytes_eq v.letters xs) words) f in
    i ∙ (ap (λ xs. said w (readings w.form xs)) g ∙ (ap (λ o. said_by o (after_word rest)) some_is ∙ by_word line middle rest h e))

pub unknown : (line middle rest word : List ℕ) → HasParts line middle rest → false ≡ (length rest == 0)
    → word ≡ take_while is_letter rest → None ≡ find (λ v. bytes_eq v.letters word) words
    → Faulty UnknownWord ≡ line_of line
unknown line middle rest word h e f k =
    let is_word_of : None ≡ word_of rest = k ∙ ap (λ xs. find (λ v. bytes_eq v.letters xs) words) f in
    ap (λ o. said_by o (after_word rest)) is_word_of ∙ by_word line middle rest h e
