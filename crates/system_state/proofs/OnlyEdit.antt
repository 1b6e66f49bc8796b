-- The step of the only bot that fills or voids a voxel.
use Rattle.std.proofs.Common.{◌≡◌, sym, ap, subst, [], ◌∷◌, Bool, true, false, cond}
use Rattle.std.specs.Prelude.{pos, negsuc, ◌+ℤ◌}
use Rattle.vox_geom.specs.declared.coordinate.Coord.{Coord}
use Rattle.vox_geom.specs.declared.difference.Diff.{Diff}
use Rattle.vox_geom.specs.Point.{Point, point, plus}
use Rattle.vox_geom.specs.Space.{IsInSpace, coordinate, in_space}
use Rattle.vox_geom.proofs.Points.{in_space_is}
use Rattle.nano_spec.specs.declared.commands.Command.TheVariants.{Fill, Void}
use Rattle.nano_spec.specs.declared.system.Bot.{Bot}
use Rattle.nano_spec.specs.Energy.{upkeep}
use Rattle.nano_spec.specs.Matrix.{is_full}
use Rattle.nano_spec.specs.State.{State}
use Rattle.nano_spec.specs.Step.{after}
use Rattle.step_groups.specs.Judging.{edit_of}
use Rattle.vox_planes.specs.Voxel.{with_voxel}
use Rattle.system_state.specs.Edited.{edit_cost}
use Rattle.system_state.proofs.OnlyBot.{fill_cost, matrix_filled, matrix_voided, void_cost}

module _ (s : State) (b : Bot) (d : Diff) (only : s.bots ≡ b ∷ []) (i : in_space s.matrix.resolution (plus (point b.pos) d) ≡ true) where
  abbrev there : Coord
  there = coordinate (plus (point b.pos) d)

  abbrev start : State
  start = record s { bots = b ∷ [] }

  same : start ≡ s
  same = λ j. record s { bots = sym only j }

  filled_on :
      record s { matrix = with_voxel s.matrix there true; energy = (s.energy +ℤ upkeep s) +ℤ cond (is_full s.matrix there) (pos 6) (pos 12) }
      ≡ after s (Fill d ∷ [])
  filled_on =
      let matrix = sym (matrix_filled s.matrix b d i) in
      let cost = sym (fill_cost s.matrix b d i) in
      subst (λ (t : State). record t { matrix = with_voxel t.matrix there true; energy = (t.energy +ℤ upkeep t) +ℤ cond (is_full t.matrix there) (pos 6) (pos 12) } ≡ after t (Fill d ∷ [])) same
      (λ j. record { matrix = matrix j; harmonics = s.harmonics; bots = b ∷ []; energy = (s.energy +ℤ upkeep start) +ℤ cost j; profile = s.profile })

  voided_on :
      record s { matrix = with_voxel s.matrix there false; energy = (s.energy +ℤ upkeep s) +ℤ cond (is_full s.matrix there) (negsuc 11) (pos 3) }
      ≡ after s (Void d ∷ [])
  voided_on =
      let matrix = sym (matrix_voided s.matrix b d i) in
      let cost = sym (void_cost s.matrix b d i) in
      subst (λ (t : State). record t { matrix = with_voxel t.matrix there false; energy = (t.energy +ℤ upkeep t) +ℤ cond (is_full t.matrix there) (negsuc 11) (pos 3) } ≡ after t (Void d ∷ [])) same
      (λ j. record { matrix = matrix j; harmonics = s.harmonics; bots = b ∷ []; energy = (s.energy +ℤ upkeep start) +ℤ cost j; profile = s.profile })

  changed_on : (full : Bool) → record s {
    matrix = with_voxel s.matrix there full;
    energy = (s.energy +ℤ upkeep s) +ℤ edit_cost full (is_full s.matrix there);
  } ≡ after s (edit_of full d ∷ [])
  changed_on true = filled_on
  changed_on false = voided_on

-- the state after the voxel at a coordinate was filled (or voided)
pub edited_on : (s : State) (b : Bot) (d : Diff) (at : Coord) (full : Bool) → s.bots ≡ b ∷ []
    → IsInSpace s.matrix.resolution at → point at ≡ plus (point b.pos) d → record s
    { matrix = with_voxel s.matrix at full; energy = (s.energy +ℤ upkeep s) +ℤ edit_cost full (is_full s.matrix at) }
    ≡ after s (edit_of full d ∷ [])
edited_on s b d at full only stays named =
    let in_space_holds : in_space s.matrix.resolution (plus (point b.pos) d) ≡ true = subst (λ (p : Point). in_space s.matrix.resolution p ≡ true) named (in_space_is s.matrix.resolution at stays) in
    subst (λ (c : Coord). record s { matrix = with_voxel s.matrix c full; energy = (s.energy +ℤ upkeep s) +ℤ edit_cost full (is_full s.matrix c) } ≡ after s (edit_of full d ∷ [])) (sym (ap coordinate named)) (changed_on s b d only in_space_holds full)
