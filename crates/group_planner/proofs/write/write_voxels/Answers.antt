use Rattle.std.proofs.Common.{◌+◌, refl, ap, arith}
use Rattle.std.proofs.lemmas.Result.{on_ok_weaker}
use Rattle.vox_geom.specs.declared.coordinate.Coord.{Coord}
use Rattle.plan_tape.specs.declared.axis.Axis.TheVariants.{Z}
use Rattle.plan_tape.specs.Leg.{moves, put}
use Rattle.group_planner.specs.Pair.{front, rear}
use Rattle.group_planner.proofs.Worked.{back_both, sets_at, work_both, wrote}
use Rattle.group_planner.proofs.write.write_voxels.Goals as goal

pub returns : goal.returns
returns c =
    let tape = c.args.tape.now in
    let tape_after_spread = c.spread.new.tape in
    let first = c.args.first in
    let last = c.args.last in
    let ea = ap (λ (d : Coord). d.z) c.in_ok-spread.ensures.rear_is in
    let eb = ap (λ (d : Coord). d.z) c.in_ok-spread.ensures.front_is in
    on_ok_weaker c.both_write.result
    (λ w. wrote tape tape_after_spread c.both_write.new.tape (put Z (rear tape) first) (put Z (front tape) last) (moves (rear tape).z first + moves (front tape).z last) first (last + 1) 1 c.args.full c.in_ok-spread.ensures (sets_at tape_after_spread c.both_write.new.tape (rear tape_after_spread).z ((front tape_after_spread).z + 1) first (last + 1) c.args.full 1 ea (ap (λ n. n + 1) eb) w) (omega arith) refl refl (work_both (rear tape).z (front tape).z first last c.requires.order) (back_both (rear tape).z (front tape).z first last c.requires.order))
    c.both_write.ensures
