-- The number of voxels that a step changes, by its note and by its commands.
use Rattle.std.proofs.Common.{◌≡◌, ◌≢◌, ℕ, zero, suc, ◌+◌, ◌*◌, ◌<◌, ◌≤◌, refl, sym, ◌∙◌, ap, inl, inr, ◌⊎◌, arith, List, [], ◌∷◌, ◌++◌, Bool, true, false, cond, not, ◌&&◌, ◌||◌, length, length-append, mul-le-mul}
use Rattle.std.specs.Prelude.{filter, IsTrue, IsFalse}
use Rattle.std.specs.List.{AllPairs, list_any}
use Rattle.std.proofs.lemmas.List.Sums.{length-filter}
use Rattle.vox_geom.specs.declared.coordinate.Coord.{Coord}
use Rattle.vox_geom.specs.Point.{Point, point}
use Rattle.vox_geom.specs.Region.{is_within}
use Rattle.vox_geom.specs.Space.{IsInSpace}
use Rattle.vox_geom.proofs.Truths.{and_true, none_of_two, one_of_two, or_by_first, or_by_second}
use Rattle.nano_spec.specs.declared.commands.Command.{Command}
use Rattle.nano_spec.specs.declared.commands.Command.TheVariants.{Fill, Void, GFill, GVoid}
use Rattle.nano_spec.specs.declared.system.Bot.{Bot}
use Rattle.nano_spec.specs.Act.{acts, filled, voided}
use Rattle.nano_spec.specs.Matrix.{Matrix, all_of, differ_at, is_full}
use Rattle.nano_spec.specs.Model.{volume}
use Rattle.nano_spec.specs.Next.{Goes, Next}
use Rattle.nano_spec.specs.State.{State}
use Rattle.nano_spec.specs.Step.{is_filled, is_voided, matrix_after}
use Rattle.nano_spec.proofs.Accepted.{accepted_step}
use Rattle.system_state.specs.Painting.{is_cell}
use Rattle.step_order.proofs.Lists.{In, filter_in, filter_same, in_either, in_filter, in_left, in_place, in_right, not_both}
use Rattle.step_order.proofs.Voxels.{coordinates_within, full_where, in_coordinates}
use Rattle.step_machine.specs.Edits.{is_edit}
use Rattle.step_machine.specs.Undoing.{HaveChanged, matrix_before, state_before, without_filled}
use Rattle.step_machine.specs.declared.undo.Undo.{Undo}
use Rattle.step_machine.proofs.Apart.{Apart, apart_append, apart_coordinates, apart_filter, holds}
use Rattle.step_machine.proofs.Sizes.{count_none, no_more}
use Rattle.step_machine.proofs.Taking.{among, full_with, of_among, of_each}
use Rattle.kept_machine.specs.Calls.{Tells, difference_count}
use Rattle.kept_machine.specs.declared.done.StepDone.{StepDone}
use Rattle.kept_machine.proofs.Differences.{all_below, few_below}

-- ---- by the note of the step

pub apart_of : (cells : List Coord) → AllPairs ◌≢◌ cells → Apart cells
apart_of [] h = tt
apart_of (x ∷ xs) h =
    ((λ i. let place = in_place x x xs i in h zero (suc place.0) x (omega arith) (let below : place.0 < length xs = place.1 in omega arith) (sym place.2)), apart_of xs (λ i j d l k e. h (suc i) (suc j) d (omega arith) (omega arith) e))

-- a voxel that became void or full differs, and no other
differs_there : (v f o : Bool) → (v ≡ true → o ≡ false) → (f ≡ true → o ≡ true)
    → ((cond v true (cond f false o) && not o) || (o && not (cond v true (cond f false o)))) ≡ (v || f)
differs_there true f true h k = absurd (not_both refl (h refl))
differs_there true f false h k = refl
differs_there false true true h k = refl
differs_there false true false h k = absurd (not_both (k refl) refl)
differs_there false false true h k = refl
differs_there false false false h k = refl

module _ (m : Matrix) (undo : Undo) (h : HaveChanged m undo) where
  abbrev before : Matrix
  before = matrix_before m undo.filled.items undo.voided.items

  abbrev is_changed : Coord → Bool
  is_changed d = is_cell undo.voided.items d || is_cell undo.filled.items d

  abbrev cells : List Coord
  cells = undo.voided.items ++ undo.filled.items

  pub filled_is : (c : Coord) → In c undo.filled.items → IsInSpace m.resolution c × (is_full m c ≡ true)
  filled_is c i =
      (of_each (λ (d : Coord). IsInSpace m.resolution d) undo.filled.items c h.filled_within (holds c undo.filled.items i), of_each (λ (d : Coord). IsTrue (is_full m d)) undo.filled.items c h.filled (holds c undo.filled.items i))

  pub voided_is : (c : Coord) → In c undo.voided.items → IsInSpace m.resolution c × (is_full m c ≡ false)
  voided_is c i =
      (of_each (λ (d : Coord). IsInSpace m.resolution d) undo.voided.items c h.voided_within (holds c undo.voided.items i), of_each (λ (d : Coord). IsFalse (is_full m d)) undo.voided.items c h.voided (holds c undo.voided.items i))

  pub full_before : (d : Coord) → IsInSpace m.resolution d → is_full before d
      ≡ cond (is_cell undo.voided.items d) true (cond (is_cell undo.filled.items d) false (is_full m d))
  full_before d w =
      full_with (without_filled m undo.filled.items) undo.voided.items true d w
      ∙ ap (λ b. cond (is_cell undo.voided.items d) true b) (full_with m undo.filled.items false d w)

  differs_is : (d : Coord) → In d (all_of m) → differ_at before m d ≡ is_changed d
  differs_is d i =
      ap (λ b. (b && not (is_full m d)) || (is_full m d && not b)) (full_before d (coordinates_within m.resolution d i))
      ∙ differs_there (is_cell undo.voided.items d) (is_cell undo.filled.items d) (is_full m d)
      (λ e. (voided_is d (of_among undo.voided.items d e)).1) (λ e. (filled_is d (of_among undo.filled.items d e)).1)

  listed : (c : Coord) → In c cells → In c (filter is_changed (all_of m))
  listed c i = by (in_either c undo.voided.items undo.filled.items i)
    where
      by : In c undo.voided.items ⊎ In c undo.filled.items → In c (filter is_changed (all_of m))
      by (inl j) = in_filter is_changed c (all_of m) (in_coordinates m.resolution c (voided_is c j).0) (or_by_first (is_cell undo.voided.items c) (is_cell undo.filled.items c) (among undo.voided.items c j))
      by (inr j) = in_filter is_changed c (all_of m) (in_coordinates m.resolution c (filled_is c j).0) (or_by_second (is_cell undo.voided.items c) (is_cell undo.filled.items c) (among undo.filled.items c j))

  of_listed : (c : Coord) → In c (filter is_changed (all_of m)) → In c cells
  of_listed c i = by (one_of_two (is_cell undo.voided.items c) (is_cell undo.filled.items c) (filter_in is_changed c (all_of m) i).1)
    where
      by : (is_cell undo.voided.items c ≡ true) ⊎ (is_cell undo.filled.items c ≡ true) → In c cells
      by (inl e) = in_left c undo.voided.items undo.filled.items (of_among undo.voided.items c e)
      by (inr e) = in_right c undo.voided.items undo.filled.items (of_among undo.filled.items c e)

  all_apart : Apart cells
  all_apart = apart_append undo.voided.items undo.filled.items (apart_of undo.voided.items h.voided_differ) (apart_of undo.filled.items h.filled_differ) (λ c i j. not_both (filled_is c j).1 (voided_is c i).1)

  pub changed_is : difference_count (matrix_before m undo.filled.items undo.voided.items) m
      ≡ length undo.filled.items + length undo.voided.items
  changed_is =
      let listed_are : filter (differ_at before m) (all_of m) ≡ filter is_changed (all_of m) = filter_same (differ_at before m) is_changed (all_of m) differs_is in
      let counted = length-filter (differ_at before m) (all_of m) in
      let same_length = ap length listed_are in
      let no_longer = no_more cells (filter is_changed (all_of m)) all_apart listed in
      let no_shorter = no_more (filter is_changed (all_of m)) cells (apart_filter is_changed (all_of m) (apart_coordinates m.resolution)) of_listed in
      let joined = length-append undo.voided.items undo.filled.items in
      omega (arith, counted, same_length, no_longer, no_shorter, joined)

-- both lists together are as long as the changed voxels, which are at most all voxels
pub few_changed : (m : Matrix) (undo : Undo) (h : HaveChanged m undo) (n k : ℕ) → m.resolution ≤ 400
    → n ≡ length undo.filled.items → k ≡ length undo.voided.items → n + k ≤ 64000000
few_changed m undo h n k small filled voided =
    let changed = changed_is m undo h in
    let below = few_below (matrix_before m undo.filled.items undo.voided.items) m (volume m.resolution) in
    let all = all_below (matrix_before m undo.filled.items undo.voided.items) m in
    let cube : m.resolution * m.resolution * m.resolution ≤ 400 * 400 * 400 = mul-le-mul (mul-le-mul small small) small in
    omega (arith, filled, voided, changed, below, all, cube)

-- the outcome of a step with a note
pub told_noted : (v w : State) (undo : Undo) (m : Matrix) (changed : ℕ) (made : StepDone) → made.energy ≡ w.energy
    → made.harmonics ≡ w.harmonics → made.active ≡ length w.bots → made.changed ≡ changed
    → changed ≡ difference_count (matrix_before m undo.filled.items undo.voided.items) m → m ≡ w.matrix
    → state_before w undo ≡ v → Tells v w made
told_noted v w undo m changed made energy harmonics active counted is same was = record {
  energy = energy;
  harmonics = harmonics;
  active = active;
  changed =
      counted
      ∙ (is
      ∙ ((λ i. difference_count (matrix_before (same i) undo.filled.items undo.voided.items) (same i))
      ∙ ap (λ (s : State). difference_count s.matrix w.matrix) was));
}

-- ---- by the commands, of which none fills or voids

nothing_named : (p : Point) (k : Command) → is_edit k ≡ false → (filled p k ≡ []) × (voided p k ≡ [])
nothing_named p (Fill d) h = absurd (not_both refl h)
nothing_named p (Void d) h = absurd (not_both refl h)
nothing_named p (GFill d f) h = absurd (not_both refl h)
nothing_named p (GVoid d f) h = absurd (not_both refl h)
nothing_named p k h = (refl, refl)

pub none_differs : (full : Bool) → ((full && not full) || (full && not full)) ≡ false
none_differs true = refl
none_differs false = refl

none_filled : (bots : List Bot) (commands : List Command) (c : Coord) → list_any is_edit commands ≡ false
    → is_filled (acts bots commands) c ≡ false
none_filled [] commands c none = refl
none_filled (b ∷ bots) [] c none = refl
none_filled (b ∷ bots) (k ∷ commands) c none =
    let parts = none_of_two (is_edit k) (list_any is_edit commands) none in
    let named = nothing_named (point b.pos) k parts.0 in
    λ i. list_any (λ s. is_within s (point c)) (named.0 i) || none_filled bots commands c parts.1 i

none_voided : (bots : List Bot) (commands : List Command) (c : Coord) → list_any is_edit commands ≡ false
    → is_voided (acts bots commands) c ≡ false
none_voided [] commands c none = refl
none_voided (b ∷ bots) [] c none = refl
none_voided (b ∷ bots) (k ∷ commands) c none =
    let parts = none_of_two (is_edit k) (list_any is_edit commands) none in
    let named = nothing_named (point b.pos) k parts.0 in
    λ i. list_any (λ s. is_within s (point c)) (named.1 i) || none_voided bots commands c parts.1 i

module _ (m : Matrix) (bots : List Bot) (commands : List Command) (none : list_any is_edit commands ≡ false) where
  pub stays : (c : Coord) → IsInSpace m.resolution c → is_full (matrix_after m (acts bots commands)) c ≡ is_full m c
  stays c w =
      full_where m.resolution (λ d. is_filled (acts bots commands) d || (is_full m d && not (is_voided (acts bots commands) d))) c w
      ∙ ((λ i. none_filled bots commands c none i || (is_full m c && not (none_voided bots commands c none i))) ∙ and_true (is_full m c))

  pub none_changed : difference_count m (matrix_after m (acts bots commands)) ≡ 0
  none_changed =
      let none_listed : filter (differ_at m (matrix_after m (acts bots commands))) (all_of m) ≡ filter (λ c. false) (all_of m) =
      filter_same (differ_at m (matrix_after m (acts bots commands))) (λ c. false) (all_of m)
      (λ c i. ap (λ b. (is_full m c && not b) || (b && not (is_full m c))) (stays c (coordinates_within m.resolution c i)) ∙ none_differs (is_full m c)) in
      let counted = length-filter (differ_at m (matrix_after m (acts bots commands))) (all_of m) in
      let none_counted = length-filter (λ (c : Coord). false) (all_of m) in
      let same_length = ap length none_listed in
      let zero_is = count_none (all_of m) in
      omega (arith, counted, none_counted, same_length, zero_is)

-- the outcome of a step that changes no voxel
pub told_still : (v w : State) (commands : List Command) (step : ℕ) (made : StepDone)
    → list_any is_edit commands ≡ false → Next v commands step (Goes w) → made.energy ≡ w.energy
    → made.harmonics ≡ w.harmonics → made.active ≡ length w.bots → made.changed ≡ 0 → Tells v w made
told_still v w commands step made none goes energy harmonics active counted =
    let accepted = accepted_step v w commands step goes in
    record {
      energy = energy;
      harmonics = harmonics;
      active = active;
      changed =
          counted
          ∙ (sym (none_changed v.matrix v.bots commands none)
          ∙ ap (λ (s : State). difference_count v.matrix s.matrix) (sym accepted.is));
    }
