use Rattle.std.proofs.Common.{sym, ap, subst, arith}
use Rattle.nano_spec.specs.Legal.{IsLegal}
use Rattle.nano_spec.specs.Matrix.{Matrix, empty, is_full}
use Rattle.nano_spec.specs.Profile.{full_profile}
use Rattle.nano_spec.specs.State.{origin}
use Rattle.plan_tape.proofs.Closing.{accepted_to}
use Rattle.floor_planner.proofs.Sweeping.{matrix_is, room_left}
use Rattle.floor_planner.proofs.plan.plan_floor.Goals as goal

pub close-requires-clause-legal : goal.close-requires-clause-legal
close-requires-clause-legal c = subst IsLegal (sym (matrix_is c.fill_floor.new.tape c.args.target.now c.in_ok-fill_floor.ensures c.recall.ensures.whole)) c.requires.legal

pub close-requires-clause-limit : goal.close-requires-clause-limit
close-requires-clause-limit c =
    let recall_whole = c.recall.ensures.whole in
    let some = recall_whole.some in
    let resolution = c.args.target.now.resolution in
    let room = room_left c.fill_floor.new.tape c.args.target.now resolution 0 origin c.in_ok-fill_floor.ensures (omega arith) (omega arith) recall_whole.most (record { x = some; y = some; z = some }) in
    omega (arith, room)

pub returns : goal.returns
returns c =
    let tape_after_fill_floor = c.fill_floor.new.tape in
    let fill_floor_ensured = c.in_ok-fill_floor.ensures in
    record {
      accepted = accepted_to c.close.result tape_after_fill_floor.source (empty c.args.target.now.resolution) tape_after_fill_floor.matrix c.args.target.now tape_after_fill_floor.profile full_profile fill_floor_ensured.source (λ q. ap (λ (m : Matrix). is_full m q) (matrix_is tape_after_fill_floor c.args.target.now fill_floor_ensured c.recall.ensures.whole)) fill_floor_ensured.profile c.close.ensures.accepted;
    }
