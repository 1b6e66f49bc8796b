use Rattle.std.proofs.Common.{arith, ◌+◌, ◌≤◌, ◌∙◌, sym, ap, subst}
use Rattle.std.specs.Prelude.{IsTrue, ◌+ℤ◌}
use Rattle.vox_geom.specs.declared.difference.Diff.{Diff}
use Rattle.vox_geom.specs.Point.{point, plus}
use Rattle.vox_geom.specs.Space.{IsInSpace, coordinate, in_space}
use Rattle.nano_spec.specs.Matrix.{is_full}
use Rattle.nano_spec.specs.State.{State}
use Rattle.step_groups.specs.Judging.{edit_of}
use Rattle.system_state.specs.Edited.{edit_cost}
use Rattle.system_state.specs.Effects.{MayTake}
use Rattle.system_state.specs.Painting.{met_count}
use Rattle.system_state.proofs.OneVoxel.{edited_turn, names_in_space, one_met}
use Rattle.system_state.proofs.system.System.take_edit.Goals as goal

pub target-at-requires-clause-from : goal.target-at-requires-clause-from
target-at-requires-clause-from g c =
    let may : MayTake c.self.inside.matrix.resolution c.self.inside.crew c.args.bot 0 (edit_of c.args.full c.args.d) = subst (λ (t : State). MayTake t.matrix.resolution t.bots c.args.bot 0 (edit_of c.args.full c.args.d)) (sym c.self.view_is) (c.requires.may 0) in
    subst (λ r. IsInSpace r c.args.bot.pos) (sym c.resolution-resolution.ensures.value) may.within

pub target-at-requires-clause-within : goal.target-at-requires-clause-within
target-at-requires-clause-within g c =
    let may : MayTake c.self.inside.matrix.resolution c.self.inside.crew c.args.bot 0 (edit_of c.args.full c.args.d) = subst (λ (t : State). MayTake t.matrix.resolution t.bots c.args.bot 0 (edit_of c.args.full c.args.d)) (sym c.self.view_is) (c.requires.may 0) in
    let named = names_in_space c.self.inside.matrix.resolution c.args.bot c.args.d c.args.full may.stays in
    subst (λ r. IsTrue (in_space r (plus (point c.args.bot.pos) c.diff.result))) (sym c.resolution-resolution.ensures.value)
    (subst (λ (d : Diff). IsTrue (in_space c.self.inside.matrix.resolution (plus (point c.args.bot.pos) d))) (sym c.diff.ensures.value) named)

pub edit_voxel-requires-clause-at : goal.edit_voxel-requires-clause-at
edit_voxel-requires-clause-at g c = subst (λ r. IsInSpace r c.target-at.result) (c.resolution-resolution.ensures.value ∙ ap (λ (t : State). t.matrix.resolution) c.self.view_is) c.target-at.ensures.stays

pub returns-clause-value : goal.returns-clause-value
returns-clause-value g c = λ partner.
    let state : State = c.args.self.now in
    let may : MayTake state.matrix.resolution state.bots c.args.bot 0 (edit_of c.args.full c.args.d) = c.requires.may 0 in
    let named = names_in_space state.matrix.resolution c.args.bot c.args.d c.args.full may.stays in
    let at = c.target-at.ensures.value ∙ ap (λ (d : Diff). coordinate (plus (point c.args.bot.pos) d)) c.diff.ensures.value in
    let was = c.full_at-was_full.ensures.value ∙ ap (λ (t : State). is_full t.matrix c.target-at.result) c.self.view_is in
    c.edit_voxel.ensures.value
    ∙ edited_turn state c.args.bot partner c.args.d c.args.full c.target-at.result (state.energy +ℤ edit_cost c.args.full c.full_at-was_full.result) named at (ap (λ t. state.energy +ℤ edit_cost c.args.full t) was)

pub returns-clause-touches : goal.returns-clause-touches
returns-clause-touches g c =
    let may : MayTake c.self.inside.matrix.resolution c.self.inside.crew c.args.bot 0 (edit_of c.args.full c.args.d) = subst (λ (t : State). MayTake t.matrix.resolution t.bots c.args.bot 0 (edit_of c.args.full c.args.d)) (sym c.self.view_is) (c.requires.may 0) in
    let named = names_in_space c.self.inside.matrix.resolution c.args.bot c.args.d c.args.full may.stays in
    let one_met_here = one_met c.self.inside.matrix c.args.bot c.args.d c.args.full named in
    let touches = c.full_at-was_full.ensures.touches in
    let le : c.full_at-was_full.new.steps ≤ c.args.steps.now + met_count c.self.inside.matrix c.args.bot (edit_of c.args.full c.args.d) = omega arith in
    subst (λ (s : State). c.full_at-was_full.new.steps ≤ c.args.steps.now + met_count s.matrix c.args.bot (edit_of c.args.full c.args.d)) c.self.view_is le
