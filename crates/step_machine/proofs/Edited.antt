-- The step of the only bot that fills or voids a voxel: the cells that change.
use Rattle.std.proofs.Common.{◌≡◌, ℕ, ◌+◌, ◌*◌, ◌≤◌, refl, sym, ◌∙◌, ap, subst, arith, List, [], ◌∷◌, Bool, true, false, ◌&&◌, ◌||◌, not, cond, length, append-nil, filter}
use Rattle.std.specs.Bool.{beq}
use Rattle.std.specs.Prelude.{Option, None, IsTrue, MatchBool, count_by}
use Rattle.std.proofs.lemmas.List.Sums.{length-filter, sum_by-cons}
use Rattle.vox_geom.specs.declared.coordinate.Coord.{Coord}
use Rattle.vox_geom.specs.declared.difference.Diff.{Diff}
use Rattle.vox_geom.specs.Point.{point, plus, same_point}
use Rattle.vox_geom.specs.Region.{is_within, just}
use Rattle.vox_geom.specs.Space.{IsInSpace}
use Rattle.vox_geom.proofs.Truths.{and_by_second, or_false}
use Rattle.vox_geom.proofs.Points.{point_itself}
use Rattle.nano_spec.specs.declared.commands.Command.{Command}
use Rattle.nano_spec.specs.declared.system.Bot.{Bot}
use Rattle.nano_spec.specs.Act.{acts}
use Rattle.nano_spec.specs.Group.{leaders}
use Rattle.nano_spec.specs.Matrix.{Matrix, all_of, is_full}
use Rattle.nano_spec.specs.Model.{volume}
use Rattle.nano_spec.specs.Rules.{broken}
use Rattle.nano_spec.specs.State.{IsReady, State}
use Rattle.nano_spec.specs.Step.{after, harmonics_after}
use Rattle.nano_spec.specs.Work.{volatile_total}
use Rattle.step_groups.specs.Judging.{edit_of, act}
use Rattle.step_groups.proofs.Alone.{single_leaders}
use Rattle.vox_planes.proofs.Voxels.{same_point-is}
use Rattle.system_state.proofs.OnlyBot.{within_just}
use Rattle.system_state.proofs.Single.{only_one}
use Rattle.step_machine.specs.Edits.{cells_of, cells_of_all, edit_count, edits_of, edits_total}
use Rattle.support_forest.specs.ForestView.{AreAdded, AreRemoved, IsCheap, MayAdd, MayRemove, ForestView}
use Rattle.nano_spec.specs.declared.system.Harmonics.{Harmonics}
use Rattle.nano_spec.specs.declared.system.Harmonics.TheVariants.{High, Low}
use Rattle.nano_spec.specs.Grounded.{FirstUngrounded}
use Rattle.nano_spec.specs.State.{is_high}
use Rattle.step_machine.specs.Settling.{IsRefitted, IsSettled}
use Rattle.step_machine.proofs.Stepping.{goes}
use Rattle.step_machine.proofs.Refitting.{cheap_none, is_refitted, lost_none, may_gain, may_lose, won_none}
use Rattle.step_machine.proofs.Still.{only_bot}
use Rattle.step_machine.proofs.Working.{edits_are_volatile}

and_false : (a b : Bool) → (IsTrue b → ⊥) → (a && b) ≡ false
and_false true true h = absurd (h refl)
and_false true false h = refl
and_false false b h = refl

none_pass : (test : Coord → Bool) (xs : List Coord) → filter (λ c. test c && false) xs ≡ []
none_pass test [] = refl
none_pass test (x ∷ xs) = rw (and_false (test x) false (λ e. cc)) (none_pass test xs)

-- the cells of a step are those of the only bot
one_edit : (s : State) (b : Bot) (k : Command) (full : Bool) → s.bots ≡ b ∷ []
    → edits_of s (k ∷ []) full ≡ cells_of s.matrix full (act b k)
one_edit s b k full only =
    ap (λ (bots : List Bot). cells_of_all s.matrix full (leaders (acts bots (k ∷ [])))) only
    ∙ (ap (cells_of_all s.matrix full) (single_leaders b k) ∙ append-nil (cells_of s.matrix full (act b k)))

module _ (m : Matrix) (b : Bot) (d : Diff) (at : Coord) (named : point at ≡ plus (point b.pos) d) (stays : IsInSpace m.resolution at) where
  here : (c : Coord) → (is_within (just (plus (point b.pos) d)) (point c) || false) ≡ same_point (point c) (point at)
  here c = or_false (is_within (just (plus (point b.pos) d)) (point c)) ∙ (within_just (plus (point b.pos) d) (point c) ∙ ap (same_point (point c)) (sym named))

  cell_by : (test : Coord → Bool)
      → filter (λ c. test c && (is_within (just (plus (point b.pos) d)) (point c) || false)) (all_of m)
      ≡ cond (test at) (at ∷ []) []
  cell_by test =
      ap (λ (f : Coord → Bool). filter (λ c. test c && f c) (all_of m)) (λ i c. here c i)
      ∙ (only_one m.resolution (λ c. test c && same_point (point c) (point at)) at stays (λ c ne. and_false (test c) (same_point (point c) (point at)) (λ h. ne (same_point-is c at h)))
      ∙ ap (λ t. cond t (at ∷ []) []) (and_by_second (test at) (same_point (point at) (point at)) (point_itself at)))

  cell_there : filter (λ c. is_within (just (plus (point b.pos) d)) (point c) || false) (all_of m) ≡ at ∷ []
  cell_there = cell_by (λ c. true)

  removed : (full : Bool) → cells_of m true (act b (edit_of full d)) ≡ cond (not full && is_full m at) (at ∷ []) []
  removed true = none_pass (is_full m) (all_of m)
  removed false = cell_by (is_full m)

  added : (full : Bool) → cells_of m false (act b (edit_of full d)) ≡ cond (full && not (is_full m at)) (at ∷ []) []
  added true = cell_by (λ c. not (is_full m c))
  added false = none_pass (λ c. not (is_full m c)) (all_of m)

  counted_there : count_by (λ c. is_within (just (plus (point b.pos) d)) (point c) || false) (all_of m) ≡ 1
  counted_there = sym (length-filter (λ c. is_within (just (plus (point b.pos) d)) (point c) || false) (all_of m)) ∙ ap length cell_there

  one_counted : (full : Bool)
      → 1 ≤ edit_count m true (act b (edit_of full d)) + edit_count m false (act b (edit_of full d))
  one_counted true = let one_there = counted_there in omega (arith, one_there)
  one_counted false = let one_there = counted_there in omega (arith, one_there)

-- the cells removed and added by filling the voxel (or voiding it): it changes only if it was
-- otherwise

abbrev ArePart : Bool → Bool → List Coord → List Coord → List Coord → Type 0
ArePart full was cell removed added = (removed ≡ cond (not full && was) cell []) × (added ≡ cond (full && not was) cell [])

part_same : (full was : Bool) (cell : List Coord) → beq was full ≡ true → ArePart full was cell [] []
part_same true true cell e = (refl, refl)
part_same true false cell e = cc
part_same false true cell e = cc
part_same false false cell e = (refl, refl)

part_full : (full was : Bool) (cell : List Coord) → beq was full ≡ false → full ≡ true → ArePart full was cell [] cell
part_full true true cell e f = cc
part_full true false cell e f = (refl, refl)
part_full false was cell e f = cc

part_void : (full was : Bool) (cell : List Coord) → beq was full ≡ false → full ≡ false → ArePart full was cell cell []
part_void true was cell e f = cc
part_void false true cell e f = (refl, refl)
part_void false false cell e f = cc

module _ (s : State) (d : Diff) (at : Coord) (full : Bool) (commands : List Command) (one : length s.bots ≡ 1) (command : commands ≡ edit_of full d ∷ []) (named : (b : Bot) → s.bots ≡ b ∷ [] → point at ≡ plus (point b.pos) d) (stays : IsInSpace s.matrix.resolution at) where
  pub removed_are : (was : Bool) (cell now : List Coord) → was ≡ is_full s.matrix at → cell ≡ at ∷ []
      → now ≡ cond (not full && was) cell [] → now ≡ edits_of s commands true
  removed_are was cell now e f g =
      let only = only_bot s.bots one in
      g ∙ ((λ i. cond (not full && e i) (f i) []) ∙ (sym (removed s.matrix only.0 d at (named only.0 only.1) stays full) ∙ (sym (one_edit s only.0 (edit_of full d) true only.1) ∙ ap (λ ks. edits_of s ks true) (sym command))))

  pub added_are : (was : Bool) (cell now : List Coord) → was ≡ is_full s.matrix at → cell ≡ at ∷ []
      → now ≡ cond (full && not was) cell [] → now ≡ edits_of s commands false
  added_are was cell now e f g =
      let only = only_bot s.bots one in
      g ∙ ((λ i. cond (full && not (e i)) (f i) []) ∙ (sym (added s.matrix only.0 d at (named only.0 only.1) stays full) ∙ (sym (one_edit s only.0 (edit_of full d) false only.1) ∙ ap (λ ks. edits_of s ks false) (sym command))))

  pub harmonics_stay : s.harmonics ≡ (after s commands).harmonics
  harmonics_stay =
      let only = only_bot s.bots one in
      by full ∙ (ap (λ (bots : List Bot). harmonics_after s.harmonics (acts bots (edit_of full d ∷ []))) (sym only.1) ∙ ap (λ ks. (after s ks).harmonics) (sym command))
    where
      by : (f : Bool)
          → s.harmonics ≡ harmonics_after s.harmonics (acts ((only_bot s.bots one).0 ∷ []) (edit_of f d ∷ []))
      by true = refl
      by false = refl

  -- the voxel is volatile
  pub one_volatile : (step : ℕ) → IsReady s → broken s commands step ≡ None
      → 1 ≤ volatile_total s.matrix (acts s.bots commands)
  one_volatile step ready keeps =
      let only = only_bot s.bots one in
      let volatile_edits = edits_are_volatile s commands step ready keeps in
      let leads : leaders (acts s.bots commands) ≡ act only.0 (edit_of full d) ∷ [] = (λ i. leaders (acts (only.1 i) (command i))) ∙ single_leaders only.0 (edit_of full d) in
      let edits_total_is : edits_total s.matrix true (leaders (acts s.bots commands)) ≡ edits_total s.matrix true (act only.0 (edit_of full d) ∷ []) = ap (edits_total s.matrix true) leads in
      let same_edits_total : edits_total s.matrix false (leaders (acts s.bots commands)) ≡ edits_total s.matrix false (act only.0 (edit_of full d) ∷ []) = ap (edits_total s.matrix false) leads in
      let sum_is = sum_by-cons (edit_count s.matrix true) (act only.0 (edit_of full d)) [] in
      let first_of_sum = sum_by-cons (edit_count s.matrix false) (act only.0 (edit_of full d)) [] in
      let one_counted_here = one_counted s.matrix only.0 d at (named only.0 only.1) stays full in
      omega (arith, volatile_edits, edits_total_is, same_edits_total, sum_is, first_of_sum, one_counted_here)

  module _ (step : ℕ) (ready : IsReady s) (keeps : broken s commands step ≡ None) (old : Matrix) (was : Bool) (tied : old ≡ s.matrix) (whole : length old.voxels ≡ volume old.resolution) (found : was ≡ is_full s.matrix at) where
    lost_as : (now : List Coord) → now ≡ cond (not full && was) (at ∷ []) [] → now ≡ edits_of s commands true
    lost_as now e = removed_are was (at ∷ []) now found refl e

    won_as : (now : List Coord) → now ≡ cond (full && not was) (at ∷ []) [] → now ≡ edits_of s commands false
    won_as now e = added_are was (at ∷ []) now found refl e

    paid_for : (before listed : ℕ) → listed ≤ before + 10
        → listed ≤ before + 96 * volatile_total s.matrix (acts s.bots commands)
    paid_for before listed l = let volatile_one = one_volatile step ready keeps in omega (arith, volatile_one, l)

    -- the voxel may change if it is not yet as it should be
    pub may_change : beq was full ≡ false → MatchBool full (MayAdd old (at ∷ [])) (MayRemove old (at ∷ []))
    may_change other = by full refl
      where
        by : (f : Bool) → full ≡ f → MatchBool f (MayAdd old (at ∷ [])) (MayRemove old (at ∷ []))
        by true e =
            let part = part_full full was (at ∷ []) other e in
            may_gain s commands step ready keeps old old [] (at ∷ []) tied (lost_as [] part.0) (won_as (at ∷ []) part.1) (lost_none old whole)
        by false e =
            let part = part_void full was (at ∷ []) other e in
            may_lose s commands step ready keeps old (at ∷ []) tied (lost_as (at ∷ []) part.0)

    module _ (forest : ForestView) (before listed after : ℕ) (stands : forest.spent ≡ false) (once : listed ≤ before + 10) where
      -- then the forest is that of the step's state
      pub changed_refitted : beq was full ≡ false
          → MatchBool full (AreAdded old forest.matrix (at ∷ [])) (AreRemoved old forest.matrix (at ∷ []))
          → IsCheap old forest.matrix (at ∷ []) 100 listed after → IsRefitted s commands forest before after
      changed_refitted other changed cheap = by full refl changed
        where
          by : (f : Bool) → full ≡ f
              → MatchBool f (AreAdded old forest.matrix (at ∷ [])) (AreRemoved old forest.matrix (at ∷ []))
              → IsRefitted s commands forest before after
          by true e won =
              let part = part_full full was (at ∷ []) other e in
              is_refitted s commands step ready keeps old old forest [] (at ∷ []) before listed listed after tied (lost_as [] part.0) (won_as (at ∷ []) part.1) (paid_for before listed once)
              (lost_none old whole) (cheap_none old old listed) won cheap stands
          by false e lost =
              let part = part_void full was (at ∷ []) other e in
              is_refitted s commands step ready keeps old forest.matrix forest (at ∷ []) [] before listed after after tied (lost_as (at ∷ []) part.0) (won_as [] part.1) (paid_for before listed once)
              lost cheap (won_none forest.matrix lost.whole) (cheap_none forest.matrix forest.matrix after) stands

      -- the forest is already right if the voxel is as it should be
      pub kept_refitted : beq was full ≡ true → forest.matrix ≡ old → after ≡ listed
          → IsRefitted s commands forest before after
      kept_refitted same kept end =
          let part = part_same full was (at ∷ []) same in
          let matrix = forest.matrix in
          let whole_too = subst (λ (n : Matrix). length n.voxels ≡ volume n.resolution) (sym kept) whole in
          is_refitted s commands step ready keeps matrix matrix forest [] [] before listed listed after (kept ∙ tied) (lost_as [] part.0) (won_as [] part.1) (paid_for before listed once)
          (lost_none matrix whole_too) (cheap_none matrix matrix listed) (won_none matrix whole_too) (λ first last f l. let cheap_none_here = cheap_none matrix matrix listed first last f l in omega (arith, cheap_none_here, end)) stands

  -- the forest is that of the step's state, and each voxel in it is grounded if the harmonics require it
  pub settled_by : (step : ℕ) → broken s commands step ≡ None → (forest : ForestView) (before after : ℕ)
      → IsRefitted s commands forest before after → (s.harmonics ≡ Low → FirstUngrounded forest.matrix None)
      → IsSettled s commands step forest before after
  settled_by step keeps forest before ended r held = record {
    goes = goes s _ commands step s.harmonics forest.matrix None keeps (record { harmonics_is = harmonics_stay; matrix_is = r.matrix; found = found s.harmonics refl }) refl refl;
    tied = r.matrix;
    stands = r.stands;
    touches = r.touches;
  }
    where
      found : (h : Harmonics) → s.harmonics ≡ h
          → MatchBool (is_high h) ((let at : Option Coord = None in at) ≡ None) (FirstUngrounded forest.matrix None)
      found High e = refl
      found Low e = held e
