-- The bytes of words matched by a slice pattern.
use Rattle.std.proofs.Common.{◌≡◌, ◌<◌, ◌≤◌, ◌∙◌, ℕ, zero, suc, List, [], ◌∷◌, length, get_or, String, string_bytes, codes, false, refl, sym, ap, subst, arith}
use Rattle.std.specs.Prelude.{All, IsFalse, IsTrue, Option, Some, None}
use Rattle.std.specs.Str.{bytes_eq}
use Rattle.nanobot_words.specs.declared.planner.Planner.{Planner}
use Rattle.nanobot_words.specs.declared.planner.Planner.TheVariants.{Layer, Group, Crew, Void, Low, Swarm}
use Rattle.nanobot_words.specs.declared.row.Round.TheVariants.{Full, Light}
use Rattle.nanobot_words.specs.Rows.{AreOperands, IsName, IsRow, TakesSides, plan, planner_word, row_words, run, side_word, texts, with_side}
use Rattle.nanobot_words.proofs.Sides.{takes_a_name}

none_left : {A : Type 0} (xs : List A) → length xs < 1 → xs ≡ []
none_left [] h = refl
none_left (x ∷ xs) h = absurd (omega arith)

module _ {Y : Type 0} where
  pub texts_two : (words : List (String Y)) (a b : String Y) → 2 ≤ length words → length words < 3
      → a ≡ get_or words 0 a → b ≡ get_or words 1 b → texts words ≡ string_bytes a ∷ string_bytes b ∷ []
  texts_two [] a b l u p q = absurd (omega arith)
  texts_two (x ∷ []) a b l u p q = absurd (omega arith)
  texts_two (x ∷ y ∷ xs) a b l u p q = rw (p, q, none_left xs (omega arith))

-- ---- a source and a target

-- a side whose word is that of another is the same, if none has the name `-`
pub same_side : (s u : Option (List ℕ)) → ((name : List ℕ) → s ≡ Some name → IsName name)
    → ((name : List ℕ) → u ≡ Some name → IsName name) → side_word s ≡ side_word u → s ≡ u
same_side None None hs hu e = refl
same_side None (Some name) hs hu e = absurd (hu name refl (sym e))
same_side (Some name) None hs hu e = absurd (hs name refl e)
same_side (Some name) (Some other) hs hu e = ap Some e

pub first_named : (s t : Option (List ℕ)) (b : List ℕ) → All IsName (with_side s (with_side t (b ∷ [])))
    → (name : List ℕ) → s ≡ Some name → IsName name
first_named None t b all name e = absurd (cc)
first_named (Some x) t b all name e = subst IsName (some_injective e) (all 0 x (omega arith))
  where
    some_injective : Some x ≡ Some name → x ≡ name
    some_injective e = cc

pub second_named : (s t : Option (List ℕ)) (b : List ℕ) → All IsName (with_side s (with_side t (b ∷ [])))
    → (name : List ℕ) → t ≡ Some name → IsName name
second_named s None b all name e = absurd (cc)
second_named None (Some x) b all name e = subst IsName (some_injective e) (all 0 x (omega arith))
  where
    some_injective : Some x ≡ Some name → x ≡ name
    some_injective e = cc
second_named (Some y) (Some x) b all name e = subst IsName (some_injective e) (all 1 x (omega arith))
  where
    some_injective : Some x ≡ Some name → x ≡ name
    some_injective e = cc

-- ---- a trace that is named before the models, or behind them

swapped : (x b : List ℕ) → All IsName (x ∷ b ∷ []) → All IsName (b ∷ x ∷ [])
swapped x b h zero d l = h 1 d (omega arith)
swapped x b h (suc zero) d l = h 0 d (omega arith)
swapped x b h (suc (suc k)) d l = absurd (omega arith)

to_the_front : (x y b : List ℕ) → All IsName (x ∷ y ∷ b ∷ []) → All IsName (b ∷ x ∷ y ∷ [])
to_the_front x y b h zero d l = h 2 d (omega arith)
to_the_front x y b h (suc zero) d l = h 0 d (omega arith)
to_the_front x y b h (suc (suc zero)) d l = h 1 d (omega arith)
to_the_front x y b h (suc (suc (suc k))) d l = absurd (omega arith)

to_the_end : (x y b : List ℕ) → All IsName (b ∷ x ∷ y ∷ []) → All IsName (x ∷ y ∷ b ∷ [])
to_the_end x y b h zero d l = h 1 d (omega arith)
to_the_end x y b h (suc zero) d l = h 2 d (omega arith)
to_the_end x y b h (suc (suc zero)) d l = h 0 d (omega arith)
to_the_end x y b h (suc (suc (suc k))) d l = absurd (omega arith)

pub trace_first : (s t : Option (List ℕ)) (b : List ℕ) → All IsName (with_side s (with_side t (b ∷ [])))
    → All IsName (b ∷ with_side s (with_side t []))
trace_first None None b h = h
trace_first (Some x) None b h = swapped x b h
trace_first None (Some y) b h = swapped y b h
trace_first (Some x) (Some y) b h = to_the_front x y b h

pub trace_last : (s t : Option (List ℕ)) (b : List ℕ) → All IsName (b ∷ with_side s (with_side t []))
    → All IsName (with_side s (with_side t (b ∷ [])))
trace_last None None b h = h
trace_last (Some x) None b h = swapped b x h
trace_last None (Some y) b h = swapped b y h
trace_last (Some x) (Some y) b h = to_the_end x y b h

-- ---- the words of commands

-- a planner whose word is that of another is the same
other_words : (a b : List ℕ) → IsTrue (bytes_eq a a) → IsFalse (bytes_eq a b) → a ≡ b → ⊥
other_words a b same other e = let bytes_equal = subst (λ w. IsTrue (bytes_eq a w)) e same in cc

pub same_planner : (p q : Planner) → planner_word p ≡ planner_word q → p ≡ q
same_planner Layer Layer e = refl
same_planner Group Group e = refl
same_planner Crew Crew e = refl
same_planner Void Void e = refl
same_planner Low Low e = refl
same_planner Swarm Swarm e = refl
same_planner p q e = absurd (other_words (planner_word p) (planner_word q) refl refl e)

-- the words of a run in the full round are its source, target and trace
module _ (words : List (List ℕ)) (w x y z : List ℕ) (are : words ≡ w ∷ x ∷ y ∷ z ∷ []) (s t : Option (List ℕ)) (b : List ℕ) (row : IsRow words (run Full s t b)) where
  same_words : w ∷ x ∷ y ∷ z ∷ [] ≡ codes "run" ∷ side_word s ∷ side_word t ∷ b ∷ []
  same_words = sym are ∙ row.written

  pub run_operands : AreOperands x y z s t b
  run_operands = let words_same = same_words in record { source_is = cc; target_is = cc; trace_is = cc; named = row.named; of_table = row.of_table }

-- five words
module _ (words : List (List ℕ)) (f g x y z : List ℕ) (are : words ≡ f ∷ g ∷ x ∷ y ∷ z ∷ []) (s t : Option (List ℕ)) (b : List ℕ) where
  -- those of a run under the light profile
  pub light_operands : IsRow words (run Light s t b) → AreOperands x y z s t b
  light_operands row =
      let f_is : f ∷ g ∷ x ∷ y ∷ z ∷ [] ≡ codes "run" ∷ codes "light" ∷ side_word s ∷ side_word t ∷ b ∷ [] = sym are ∙ row.written in
      record { source_is = cc; target_is = cc; trace_is = cc; named = row.named; of_table = row.of_table }

  module _ (p : Planner) (row : IsRow words (plan p s t b)) where
    plan_words : f ∷ g ∷ x ∷ y ∷ z ∷ [] ≡ codes "plan" ∷ planner_word p ∷ side_word s ∷ side_word t ∷ b ∷ []
    plan_words = sym are ∙ row.written

    pub planned_word : planner_word p ≡ g
    planned_word = let plan_words_here = plan_words in cc

    -- those of a plan
    pub plan_operands : AreOperands x y z s t b
    plan_operands = let plan_words_here = plan_words in record {
      source_is = cc;
      target_is = cc;
      trace_is = cc;
      named = trace_last s t b row.named;
      of_table = takes_a_name p s t row.of_table;
    }

    -- the planner accepts the sides that were found
    pub plan_takes : (q : Planner) (u v : Option (List ℕ)) → planner_word q ≡ g → AreOperands x y z u v z
        → TakesSides q u v
    plan_takes q u v word found =
        let own = plan_operands in
        let same_source = same_side s u (first_named s t b own.named) (first_named u v z found.named) (sym own.source_is ∙ found.source_is) in
        let same_target = same_side t v (second_named s t b own.named) (second_named u v z found.named) (sym own.target_is ∙ found.target_is) in
        subst (λ (planner : Planner). TakesSides planner u v) (same_planner p q (planned_word ∙ sym word))
        (subst (λ (side : Option (List ℕ)). TakesSides p side v) same_source (subst (λ (side : Option (List ℕ)). TakesSides p s side) same_target row.of_table))

-- a source, a target and a trace after a planner's word are the words of a plan
pub plan_written : (words : List (List ℕ)) (f g x y z : List ℕ) (p : Planner) (s t : Option (List ℕ))
    → words ≡ f ∷ g ∷ x ∷ y ∷ z ∷ [] → f ≡ codes "plan" → planner_word p ≡ g → AreOperands x y z s t z
    → words ≡ row_words (plan p s t z)
plan_written words f g x y z p s t are first second found = are ∙ (λ i. first i ∷ sym second i ∷ found.source_is i ∷ found.target_is i ∷ z ∷ [])

pub not_taken : IsTrue false → ⊥
not_taken h = cc
