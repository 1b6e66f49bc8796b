-- A step with one group, which voids a region.
use Rattle.std.proofs.Common.{◌≡◌, ℕ, ◌+◌, ◌*◌, ◌≤◌, refl, sym, ◌∙◌, ap, subst, inl, inr, arith, List, [], ◌∷◌, Bool, true, false, ◌&&◌, cond, length}
use Rattle.std.specs.Prelude.{IfSome, IsTrue, None, Option, Some, count_by, drop}
use Rattle.std.specs.Bool.{beq}
use Rattle.std.proofs.lemmas.List.{append-nil, drop_all}
use Rattle.std.proofs.lemmas.List.Sums.{sum_by-cons}
use Rattle.vox_geom.specs.declared.coordinate.Coord.{Coord}
use Rattle.vox_geom.specs.Point.{Point, point}
use Rattle.vox_geom.specs.Region.{Corners, Span, is_within, size, span}
use Rattle.vox_geom.specs.Space.{IsInSpace}
use Rattle.vox_geom.proofs.Truths.{second_of_two}
use Rattle.nano_spec.specs.declared.commands.Command.{Command}
use Rattle.nano_spec.specs.declared.commands.Command.TheVariants.{Fill, Void, GFill, GVoid}
use Rattle.nano_spec.specs.declared.system.Bot.{Bot}
use Rattle.nano_spec.specs.Act.{Act, acts, voided}
use Rattle.nano_spec.specs.Group.{is_leader, leaders}
use Rattle.nano_spec.specs.Matrix.{Matrix, all_of, is_full}
use Rattle.nano_spec.specs.Rules.{broken}
use Rattle.nano_spec.specs.State.{IsReady, State}
use Rattle.nano_spec.specs.Step.{after}
use Rattle.nano_spec.specs.Work.{volatile_total}
use Rattle.vox_planes.specs.Voxel.{is_state}
use Rattle.vox_planes.proofs.Walks.{is_of}
use Rattle.support_forest.specs.ForestView.{AreRemoved, IsVoided, IsVoidedCheaply, ForestView}
use Rattle.step_order.proofs.Lists.{In, both, filter_in, in_filter}
use Rattle.step_order.proofs.Voxels.{in_coordinates}
use Rattle.step_order.proofs.Turns.{held}
use Rattle.step_groups.specs.Judging.{act}
use Rattle.system_state.specs.declared.edited.EditedRegion.{EditedRegion}
use Rattle.system_state.specs.Edited.{IsEditedRegion}
use Rattle.step_machine.specs.Edits.{cells_of, cells_of_all, edit_count, edits_of, edits_total, is_edit, is_edited}
use Rattle.step_machine.specs.Settling.{IsOnlyRegion, IsRefitted, IsVoidedRegion}
use Rattle.step_machine.proofs.Apart.{holds}
use Rattle.step_machine.proofs.Cells.{IsRegionOf, no_cells, size_is}
use Rattle.step_machine.proofs.Refitting.{cheap_none, counted, is_refitted, won_none}
use Rattle.step_machine.proofs.Regions.{edits_nothing, edits_region}
use Rattle.step_machine.proofs.Working.{edits_are_volatile}

-- ---- the region that a command voids

voids_is_edit : (p : Point) (k : Command) (s : Span) → voided p k ≡ s ∷ [] → is_edit k ≡ true
voids_is_edit p (Fill d) s h = refl
voids_is_edit p (Void d) s h = refl
voids_is_edit p (GFill d f) s h = refl
voids_is_edit p (GVoid d f) s h = refl
voids_is_edit p k s h = cc

pub voided_region_is : (m : Matrix) (r : ℕ) (b : Bot) (command : Command) (w : EditedRegion) → r ≡ m.resolution
    → IsEditedRegion r b command w → w.full ≡ false → IsVoidedRegion m (act b command) w.region
voided_region_is m r b command w e h v =
    let region : IsRegionOf w.region true (act b command) = edits_region r b command w true h (ap (λ f. beq f true) v) in
    record {
      ordered = h.ordered;
      within = subst (λ (n : ℕ). IsInSpace n w.region.high) e h.within;
      covers = region;
      fills = edits_nothing r b command w false h (ap (λ f. beq f false) v);
      count = size_is m r true (act b command) w.region e h.ordered h.within region;
      edits = voids_is_edit (point b.pos) command h.named (h.voided ∙ ap (λ f. cond f [] (h.named ∷ [])) v);
    }

-- ---- the only group

pub only_leader : (xs : List Act) (a : Act) → drop 0 xs ≡ a ∷ drop (0 + 1) xs → length xs ≡ 1 → xs ≡ a ∷ []
only_leader xs a e l = e ∙ ap (λ ys. a ∷ ys) (drop_all (0 + 1) xs (omega arith))

pub if_some : {T : Type 0} (r : Option T) (P Q : T → Type 0) → ((t : T) → P t → Q t) → IfSome r P → IfSome r Q
if_some (Some t) P Q f p = f t p
if_some None P Q f p = tt

module _ (s : State) (commands : List Command) (step : ℕ) (ready : IsReady s) (keeps : broken s commands step ≡ None) (k : Corners) (h : IsOnlyRegion s commands k) where
  edits_are : (full : Bool) → edits_of s commands full ≡ cells_of s.matrix full h.leader
  edits_are full = ap (λ ls. cells_of_all s.matrix full ls) h.only ∙ append-nil (cells_of s.matrix full h.leader)

  filled_none : edits_of s commands false ≡ []
  filled_none = edits_are false ∙ no_cells s.matrix false h.leader h.voids.fills

  pub some_edit : 1 ≤ count_by is_edit commands
  some_edit =
      let member : In h.leader (leaders (acts s.bots commands)) = subst (λ (ls : List Act). In h.leader ls) (sym h.only) (inl refl) in
      counted s.bots commands h.leader (filter_in (is_leader (acts s.bots commands)) h.leader (acts s.bots commands) member).0 h.voids.edits

  lost_is : (new : Matrix) → IsVoided s.matrix new (span k) → AreRemoved s.matrix new (edits_of s commands true)
  lost_is new v = record {
    resolution = v.resolution;
    whole = v.whole;
    full = v.full;
    kept = λ c f. elim (v.kept c f) [ inl p ↦ inl p | inr p ↦ inr (holds c (edits_of s commands true) (there c f p)) ];
    gone = λ c i. v.gone c (h.voids.covers c ∙ edited c (held c (edits_of s commands true) i));
  }
    where
      inside : (c : Coord) → IsTrue (is_within (span k) (point c)) → IsInSpace s.matrix.resolution c
      inside c p =
          let lies_within = is_of k c h.voids.ordered p in
          let within = h.voids.within in
          record { x = omega (arith, lies_within.x_high, within.x); y = omega (arith, lies_within.y_high, within.y); z = omega (arith, lies_within.z_high, within.z) }

      there : (c : Coord) → IsTrue (is_full s.matrix c) → IsTrue (is_within (span k) (point c))
          → In c (edits_of s commands true)
      there c f p =
          subst (λ (xs : List Coord). In c xs) (sym (edits_are true))
          (in_filter (λ x. is_state s.matrix true x && is_edited true h.leader x) c (all_of s.matrix) (in_coordinates s.matrix.resolution c (inside c p)) (both f (sym (h.voids.covers c) ∙ p)))

      edited : (c : Coord) → In c (edits_of s commands true) → is_edited true h.leader c ≡ true
      edited c i =
          let passed = filter_in (λ x. is_state s.matrix true x && is_edited true h.leader x) c (all_of s.matrix) (subst (λ (xs : List Coord). In c xs) (edits_are true) i) in
          second_of_two (is_state s.matrix true c) (is_edited true h.leader c) passed.1

  small : size (span k) ≤ volatile_total s.matrix (acts s.bots commands)
  small =
      let volatile_edits = edits_are_volatile s commands step ready keeps in
      let edits_total_is : edits_total s.matrix true (leaders (acts s.bots commands)) ≡ edit_count s.matrix true h.leader + 0 = ap (edits_total s.matrix true) h.only ∙ sum_by-cons (edit_count s.matrix true) h.leader [] in
      omega (arith, volatile_edits, edits_total_is, h.voids.count)

  pub region_refitted : (old : Matrix) (forest : ForestView) (before after : ℕ) → old ≡ s.matrix
      → IsVoided old forest.matrix (span k) → IsVoidedCheaply old forest.matrix (span k) before after
      → forest.spent ≡ false → IsRefitted s commands forest before after
  region_refitted old forest before after e v t stands =
      let too_small = small in
      let lost = lost_is forest.matrix (subst (λ (m : Matrix). IsVoided m forest.matrix (span k)) e v) in
      is_refitted s commands step ready keeps old forest.matrix forest (edits_of s commands true) [] before (before + 96 * size (span k)) after after e refl (sym filled_none) (omega arith)
      (subst (λ (m : Matrix). AreRemoved m forest.matrix (edits_of s commands true)) (sym e) lost)
      (λ first last a b. let u = t first last a b in omega arith)
      (won_none forest.matrix v.whole) (cheap_none forest.matrix forest.matrix after) stands
