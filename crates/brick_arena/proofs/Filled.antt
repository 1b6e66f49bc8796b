-- The words of a chunk in which every offset has one, and those after a write of one word into a range.
use Rattle.std.proofs.Common.{◌≡◌, ℕ, ◌<◌, suc, zero, List, [], ◌∷◌, refl, sym, ap, ◌∙◌, arith, true, Some, None, Option, length, get_or, set, inl, inr}
use Rattle.std.proofs.lemmas.Bool.{cases_lt}
use Rattle.std.proofs.lemmas.List.{get_or_past}
use Rattle.brick_arena.specs.Chunks.{SetsRange, IsBlank}
use Rattle.brick_arena.specs.Known.{word_or_zero, known, is_word, AllFilled}
use Rattle.brick_arena.specs.Ownership.{IsFilled}

the_word : (c : Option ℕ) → is_word c ≡ true → (w : ℕ) × (c ≡ Some w)
the_word (Some w) e = (w, refl)
the_word None e = cc

pub filled_at : (cs : List (Option ℕ)) (i : ℕ) → AllFilled cs → i < length cs → IsFilled cs i
filled_at cs i all lt = the_word (get_or cs i None) (all i lt)

pub known-length : (cs : List (Option ℕ)) → length (known cs) ≡ length cs
known-length [] = refl
known-length (c ∷ cs) = ap suc (known-length cs)

pub known-index : (cs : List (Option ℕ)) (i : ℕ) → get_or (known cs) i 0 ≡ word_or_zero (get_or cs i None)
known-index [] i = refl
known-index (c ∷ cs) zero = refl
known-index (c ∷ cs) (suc i) = known-index cs i

pub known-get : (cs : List (Option ℕ)) (i w : ℕ) → get_or cs i None ≡ Some w → get_or (known cs) i 0 ≡ w
known-get cs i w e = known-index cs i ∙ ap word_or_zero e

pub known-set : (cs : List (Option ℕ)) (i w : ℕ) → known (set cs i (Some w)) ≡ set (known cs) i w
known-set [] i w = refl
known-set (c ∷ cs) zero w = refl
known-set (c ∷ cs) (suc i) w = ap (λ l. word_or_zero c ∷ l) (known-set cs i w)

module _ (w : ℕ) (old new : List (Option ℕ)) (start end : ℕ) (range : SetsRange (Some w) None old new start end) where
  pub filled-range : AllFilled old → AllFilled new
  filled-range all k lt =
      elim (cases_lt k start) [
        | inl before ↦ ap is_word (range.below k before) ∙ all k (omega (arith, lt, range.same_length))
        | inr from ↦ elim (cases_lt k end) [
          | inl inside ↦ ap is_word (range.inside k from inside)
          | inr after ↦ ap is_word (range.above k after) ∙ all k (omega (arith, lt, range.same_length))
        ]
      ]

  pub known-range : SetsRange w 0 (known old) (known new) start end
  known-range = record {
    same_length = known-length new ∙ range.same_length ∙ sym (known-length old);
    inside = λ k from to. known-get new k w (range.inside k from to);
    below = λ k before. known-index new k ∙ ap word_or_zero (range.below k before) ∙ sym (known-index old k);
    above = λ k after. known-index new k ∙ ap word_or_zero (range.above k after) ∙ sym (known-index old k);
  }

-- zeros from the first offset to the last
module _ (old new : List (Option ℕ)) (range : SetsRange (Some 0) None old new 0 32768) (full : length new ≡ 32768) where
  pub filled-whole : AllFilled new
  filled-whole k lt = ap is_word (range.inside k (omega arith) (omega (arith, lt, full)))

  pub known-whole : IsBlank (known new)
  known-whole = record {
    full = known-length new ∙ full;
    zeros = λ k. elim (cases_lt k 32768) [
      | inl inside ↦ known-get new k 0 (range.inside k (omega arith) inside)
      | inr past ↦ get_or_past (known new) k 0 (let known_count = known-length new in omega (arith, known_count, full, past))
    ];
  }
