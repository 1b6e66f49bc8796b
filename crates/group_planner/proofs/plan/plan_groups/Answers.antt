use Rattle.std.proofs.Common.{sym, ◌∙◌, ap, subst, arith}
use Rattle.std.proofs.lemmas.Result.{IfOk-weaker}
use Rattle.vox_geom.specs.declared.coordinate.Coord.{Coord}
use Rattle.nano_spec.specs.Legal.{IsLegal}
use Rattle.nano_spec.specs.Matrix.{Matrix, is_full}
use Rattle.nano_spec.specs.Profile.{full_profile}
use Rattle.plan_tape.specs.Fissions.{fissions}
use Rattle.plan_tape.specs.Progress.{IsVoidFrom, spot}
use Rattle.plan_tape.proofs.Closing.{accepted_to, few_made}
use Rattle.group_planner.proofs.Closing.{plan_fits}
use Rattle.group_planner.proofs.Rebuilt.{home_steps}
use Rattle.group_planner.proofs.Room.{room_for_two}
use Rattle.group_planner.proofs.plan.plan_groups.Goals as goal

pub returns-in_default-clause-accepted : goal.returns-in_default-clause-accepted
returns-in_default-clause-accepted c =
    accepted_to c.halt_alone.result c.in_ok-copy.field-0 c.args.source.now c.in_ok-copy.field-0 c.args.target.now c.full.result full_profile c.in_ok-copy.ensures.value (λ q. ap (λ (m : Matrix). is_full m q) (c.in_ok-copy.ensures.value ∙ c.in_default.ensures.none)) c.full.ensures c.halt_alone.ensures.accepted

pub open-requires-clause-room : goal.open-requires-clause-room
open-requires-clause-room c =
    let room = room_for_two c.args.source.now c.args.target.now _ c.requires.source c.requires.target c.requires.same c.in-Some.ensures.found in
    let same = c.in_ok-copy-2.ensures.resolution in
    omega (arith, room, same)

pub gather-requires-clause-limit : goal.gather-requires-clause-limit
gather-requires-clause-limit c =
    let steps = c.in_ok-rebuild.ensures.steps_are in
    omega (arith, steps, plan_fits c.args.source.now c.args.target.now c.recall.ensures.whole.most (sym c.requires.same))

pub close-requires-clause-legal : goal.close-requires-clause-legal
close-requires-clause-legal c = subst IsLegal (sym (c.in_ok-gather.ensures.matrix ∙ c.in_ok-rebuild.ensures.matrix)) c.requires.target

pub close-requires-clause-clear : goal.close-requires-clause-clear
close-requires-clause-clear c =
    let gathered = c.in_ok-gather.ensures in
    subst (λ (m : Matrix). IsVoidFrom m (spot c.gather.new.tape.bots).y) (sym gathered.matrix)
    (subst (λ (q : Coord). IsVoidFrom c.rebuild.new.tape.matrix q.y) (sym gathered.there) c.in_ok-rebuild.ensures.pair.free)

pub close-requires-clause-limit : goal.close-requires-clause-limit
close-requires-clause-limit c =
    let home = home_steps c.rebuild.new.tape c.gather.new.tape c.args.source.now c.args.target.now c.in_ok-rebuild.ensures c.recall.ensures.whole.most c.requires.same c.in_ok-gather.ensures in
    let steps = c.in_ok-rebuild.ensures.steps_are in
    omega (arith, home, steps, plan_fits c.args.source.now c.args.target.now c.recall.ensures.whole.most (sym c.requires.same))

pub returns-clause-accepted : goal.returns-clause-accepted
returns-clause-accepted c =
    let tape_after_gather = c.gather.new.tape in
    let rebuild_ensured = c.in_ok-rebuild.ensures in
    let gather_ensured = c.in_ok-gather.ensures in
    accepted_to c.close.result tape_after_gather.source c.args.source.now tape_after_gather.matrix c.args.target.now tape_after_gather.profile full_profile (gather_ensured.source ∙ rebuild_ensured.source) (λ q. ap (λ (m : Matrix). is_full m q) (gather_ensured.matrix ∙ rebuild_ensured.matrix)) gather_ensured.profile c.close.ensures.accepted

pub returns-clause-steps : goal.returns-clause-steps
returns-clause-steps c =
    let home = home_steps c.rebuild.new.tape c.gather.new.tape c.args.source.now c.args.target.now c.in_ok-rebuild.ensures c.recall.ensures.whole.most c.requires.same c.in_ok-gather.ensures in
    let steps = c.in_ok-rebuild.ensures.steps_are in
    IfOk-weaker c.close.result _ _ (λ plan e. omega (arith, e, home, steps)) c.close.ensures.steps

pub returns-clause-commands : goal.returns-clause-commands
returns-clause-commands c =
    let home = home_steps c.rebuild.new.tape c.gather.new.tape c.args.source.now c.args.target.now c.in_ok-rebuild.ensures c.recall.ensures.whole.most c.requires.same c.in_ok-gather.ensures in
    let rebuild_ensured = c.in_ok-rebuild.ensures in
    let steps = rebuild_ensured.steps_are in
    let before = rebuild_ensured.commands_are in
    let spent = c.in_ok-gather.ensures.spends.commands_are in
    IfOk-weaker c.close.result _ _ (λ plan e. omega (arith, e, home, steps, before, spent)) c.close.ensures.commands

pub returns-clause-bytes : goal.returns-clause-bytes
returns-clause-bytes c =
    let home = home_steps c.rebuild.new.tape c.gather.new.tape c.args.source.now c.args.target.now c.in_ok-rebuild.ensures c.recall.ensures.whole.most c.requires.same c.in_ok-gather.ensures in
    let rebuild_ensured = c.in_ok-rebuild.ensures in
    let steps = rebuild_ensured.steps_are in
    let before = rebuild_ensured.bytes_are in
    let spent = c.in_ok-gather.ensures.spends.bytes_are in
    IfOk-weaker c.close.result _ _ (λ plan e. omega (arith, e, home, steps, before, spent)) c.close.ensures.bytes

pub returns-clause-few : goal.returns-clause-few
returns-clause-few c = few_made c.close.result c.args.source.now full_profile (fissions c.gather.new.tape) 2 (let one = c.in_ok-gather.ensures.one_split in omega (arith, one)) c.close.ensures.fissions
