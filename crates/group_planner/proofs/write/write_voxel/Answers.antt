use Rattle.std.proofs.Common.{◌+◌, refl, ap, arith}
use Rattle.std.proofs.lemmas.Result.{on_ok_weaker}
use Rattle.vox_geom.specs.declared.coordinate.Coord.{Coord}
use Rattle.plan_tape.specs.declared.axis.Axis.TheVariants.{Z}
use Rattle.plan_tape.specs.Leg.{moves, put}
use Rattle.group_planner.specs.Pair.{front, rear}
use Rattle.group_planner.proofs.Worked.{back_front, back_rear, sets_at, work_front, work_rear, wrote}
use Rattle.group_planner.proofs.write.write_voxel.Goals as goal

pub returns-in_ok-front_goes : goal.returns-in_ok-front_goes
returns-in_ok-front_goes c =
    let tape = c.args.tape.now in
    let tape_after_front_goes = c.front_goes.new.tape in
    let z = c.args.z in
    let same_z = ap (λ (d : Coord). d.z) c.rear.ensures.value in
    let at = ap (λ (d : Coord). d.z) c.in_ok-front_goes.ensures.front_is in
    on_ok_weaker c.front_writes.result
    (λ w. wrote tape tape_after_front_goes c.front_writes.new.tape (rear tape) (put Z (front tape) z) (moves (front tape).z z) z (z + 1) 0 c.args.full c.in_ok-front_goes.ensures (sets_at tape_after_front_goes c.front_writes.new.tape (front tape_after_front_goes).z ((front tape_after_front_goes).z + 1) z (z + 1) c.args.full 0 at (ap (λ n. n + 1) at) w) (omega arith) refl refl (work_front (rear tape).z (front tape).z z (omega arith)) (back_front (rear tape).z (front tape).z z (omega arith)))
    c.front_writes.ensures

pub returns-in_ok-rear_goes : goal.returns-in_ok-rear_goes
returns-in_ok-rear_goes c =
    let tape = c.args.tape.now in
    let tape_after_rear_goes = c.rear_goes.new.tape in
    let z = c.args.z in
    let same_z = ap (λ (d : Coord). d.z) c.rear.ensures.value in
    let at = ap (λ (d : Coord). d.z) c.in_ok-rear_goes.ensures.rear_is in
    let order = c.requires.pair.in_row.order in
    on_ok_weaker c.rear_writes.result
    (λ w. wrote tape tape_after_rear_goes c.rear_writes.new.tape (put Z (rear tape) z) (front tape) (moves (rear tape).z z) z (z + 1) 0 c.args.full c.in_ok-rear_goes.ensures (sets_at tape_after_rear_goes c.rear_writes.new.tape (rear tape_after_rear_goes).z ((rear tape_after_rear_goes).z + 1) z (z + 1) c.args.full 0 at (ap (λ n. n + 1) at) w) (omega arith) refl refl (work_rear (rear tape).z (front tape).z z (omega arith) order) (back_rear (rear tape).z (front tape).z z (omega arith) order))
    c.rear_writes.ensures
