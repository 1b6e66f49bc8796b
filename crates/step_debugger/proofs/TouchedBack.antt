-- The touches of undoing a step, by its changes.
use Rattle.std.proofs.Common.{◌≡◌, ◌≢◌, ℕ, zero, suc, ◌+◌, ◌≤◌, ◌<◌, refl, sym, ◌∙◌, ap, subst, inl, inr, ◌⊎◌, arith, List, [], ◌∷◌, ◌++◌, Bool, true, false, cond, ◌&&◌, length, length-append}
use Rattle.std.specs.Prelude.{filter, not, IsTrue, IsFalse}
use Rattle.std.specs.List.{AllPairs}
use Rattle.std.proofs.lemmas.List.Sums.{length-filter}
use Rattle.vox_geom.specs.declared.coordinate.Coord.{Coord}
use Rattle.vox_geom.specs.Space.{IsInSpace}
use Rattle.vox_geom.proofs.Truths.{or_by_first, or_by_second}
use Rattle.nano_spec.specs.Matrix.{Matrix, all_of, differ_at, is_full}
use Rattle.nano_spec.specs.Work.{Levels, changed_count}
use Rattle.system_state.specs.Painting.{is_cell}
use Rattle.step_order.proofs.Lists.{In, both, in_either, in_filter, in_place, not_both}
use Rattle.step_order.proofs.Voxels.{in_coordinates, matrix_same}
use Rattle.step_machine.specs.Undoing.{HaveChanged, IsUndoneBy, matrix_before, without_filled}
use Rattle.step_machine.specs.declared.undo.Undo.{Undo}
use Rattle.step_machine.proofs.Apart.{Apart, apart_append, holds}
use Rattle.step_machine.proofs.Sizes.{no_more}
use Rattle.step_machine.proofs.Weighing.{levels_of_all}
use Rattle.step_machine.proofs.Taking.{among, full_with, not_among, of_among, of_each}
use Rattle.step_debugger.specs.Touches.{IsTouchedBack, common}

apart_of : {X : Type 0} (xs : List X) → AllPairs ◌≢◌ xs → Apart xs
apart_of [] h = tt
apart_of {X} (x ∷ xs) h = ((λ i. let place = in_place x x xs i in h zero (suc place.0) x (omega arith) (let below_length : place.0 < length xs = place.1 in omega arith) (sym place.2)), apart_of xs (λ i j d l k e. h (suc i) (suc j) d (omega arith) (omega arith) e))

module _ (old : Matrix) (undo : Undo) (h : HaveChanged old undo) where
  filled_is : (c : Coord) → In c undo.filled.items → IsInSpace old.resolution c × (is_full old c ≡ true)
  filled_is c i = (of_each (λ (d : Coord). IsInSpace old.resolution d) undo.filled.items c h.filled_within (holds c undo.filled.items i), of_each (λ (d : Coord). IsTrue (is_full old d)) undo.filled.items c h.filled (holds c undo.filled.items i))

  voided_is : (c : Coord) → In c undo.voided.items → IsInSpace old.resolution c × (is_full old c ≡ false)
  voided_is c i = (of_each (λ (d : Coord). IsInSpace old.resolution d) undo.voided.items c h.voided_within (holds c undo.voided.items i), of_each (λ (d : Coord). IsFalse (is_full old d)) undo.voided.items c h.voided (holds c undo.voided.items i))

  new_at : (d : Coord) → IsInSpace old.resolution d → is_full (matrix_before old undo.filled.items undo.voided.items) d
      ≡ cond (is_cell undo.voided.items d) true (cond (is_cell undo.filled.items d) false (is_full old d))
  new_at d w = full_with (without_filled old undo.filled.items) undo.voided.items true d w ∙ ap (λ b. cond (is_cell undo.voided.items d) true b) (full_with old undo.filled.items false d w)

  both_are : (d : Coord) → IsInSpace old.resolution d
      → (is_full old d && is_full (matrix_before old undo.filled.items undo.voided.items) d)
      ≡ cond (is_cell undo.filled.items d) false (is_full old d)
  both_are d w = ap (λ b. is_full old d && b) (new_at d w) ∙ by (is_cell undo.voided.items d) refl
    where
      gone : (f o : Bool) → o ≡ false → (o && true) ≡ cond f false o
      gone true false e = refl
      gone false false e = refl
      gone f true e = cc

      stays : (f o : Bool) → (o && cond f false o) ≡ cond f false o
      stays true true = refl
      stays true false = refl
      stays false true = refl
      stays false false = refl

      by : (v : Bool) → is_cell undo.voided.items d ≡ v
          → (is_full old d && cond v true (cond (is_cell undo.filled.items d) false (is_full old d)))
          ≡ cond (is_cell undo.filled.items d) false (is_full old d)
      by true e = gone (is_cell undo.filled.items d) (is_full old d) (voided_is d (of_among undo.voided.items d e)).1
      by false e = stays (is_cell undo.filled.items d) (is_full old d)

  common_is : common old (matrix_before old undo.filled.items undo.voided.items) ≡ without_filled old undo.filled.items
  common_is = matrix_same old.resolution (λ c. is_full old c && is_full (matrix_before old undo.filled.items undo.voided.items) c) (λ d. cond (is_cell undo.filled.items d) false (is_full old d)) both_are

  filled_differs : (c : Coord) → In c undo.filled.items
      → differ_at old (matrix_before old undo.filled.items undo.voided.items) c ≡ true
  filled_differs c i =
      let filled_facts = filled_is c i in
      let one_among = among undo.filled.items c i in
      let not_listed = not_among undo.voided.items c (λ j. not_both filled_facts.1 (voided_is c j).1) in
      let not_full : is_full (matrix_before old undo.filled.items undo.voided.items) c ≡ false = new_at c filled_facts.0 ∙ (λ k. cond (not_listed k) true (cond (one_among k) false (is_full old c))) in
      or_by_first (is_full old c && not (is_full (matrix_before old undo.filled.items undo.voided.items) c)) (is_full (matrix_before old undo.filled.items undo.voided.items) c && not (is_full old c)) (both filled_facts.1 (ap not not_full))

  voided_differs : (c : Coord) → In c undo.voided.items
      → differ_at old (matrix_before old undo.filled.items undo.voided.items) c ≡ true
  voided_differs c i =
      let voided_facts = voided_is c i in
      let one_among = among undo.voided.items c i in
      let full : is_full (matrix_before old undo.filled.items undo.voided.items) c ≡ true = new_at c voided_facts.0 ∙ ap (λ b. cond b true (cond (is_cell undo.filled.items c) false (is_full old c))) one_among in
      or_by_second (is_full old c && not (is_full (matrix_before old undo.filled.items undo.voided.items) c)) (is_full (matrix_before old undo.filled.items undo.voided.items) c && not (is_full old c)) (both full (ap not voided_facts.1))

  all_differ : length undo.filled.items + length undo.voided.items
      ≤ changed_count old (matrix_before old undo.filled.items undo.voided.items)
  all_differ =
      let no_longer = no_more (undo.filled.items ++ undo.voided.items) (filter (differ_at old (matrix_before old undo.filled.items undo.voided.items)) (all_of old))
      (apart_append undo.filled.items undo.voided.items (apart_of undo.filled.items h.filled_differ) (apart_of undo.voided.items h.voided_differ) (λ c i j. not_both (filled_is c i).1 (voided_is c j).1))
      (λ c i. by c (in_either c undo.filled.items undo.voided.items i)) in
      let length_is = length-append undo.filled.items undo.voided.items in
      let filtered_length = length-filter (differ_at old (matrix_before old undo.filled.items undo.voided.items)) (all_of old) in
      omega (arith, no_longer, length_is, filtered_length)
    where
      by : (c : Coord) → In c undo.filled.items ⊎ In c undo.voided.items
          → In c (filter (differ_at old (matrix_before old undo.filled.items undo.voided.items)) (all_of old))
      by c (inl i) = in_filter (differ_at old (matrix_before old undo.filled.items undo.voided.items)) c (all_of old) (in_coordinates old.resolution c (filled_is c i).0) (filled_differs c i)
      by c (inr i) = in_filter (differ_at old (matrix_before old undo.filled.items undo.voided.items)) c (all_of old) (in_coordinates old.resolution c (voided_is c i).0) (voided_differs c i)

  pub touched_back : (began ended : ℕ) → IsUndoneBy old undo.filled.items undo.voided.items began ended
      → IsTouchedBack old (matrix_before old undo.filled.items undo.voided.items) began ended
  touched_back began ended paid =
      let l = paid.0 in
      let t = paid.1 in
      let few = all_differ in
      (record { first = l.first; middle = l.middle; last = l.last; first_are = l.first_are; middle_are = subst (λ (n : Matrix). Levels n l.middle) (sym common_is) l.middle_are; last_are = l.last_are }, omega (arith, t, few))

-- no touch is within every bound
pub untouched : (old new : Matrix) (began : ℕ) → IsTouchedBack old new began began
untouched old new began =
    let first = levels_of_all old in
    let middle = levels_of_all (common old new) in
    let last = levels_of_all new in
    (record { first = first.0; middle = middle.0; last = last.0; first_are = first.1; middle_are = middle.1; last_are = last.1 }, omega arith)
