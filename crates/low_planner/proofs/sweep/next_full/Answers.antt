use Rattle.std.proofs.Common.{◌-◌, ◌+◌, ◌≡◌, arith}
use Rattle.low_planner.proofs.Rows.{next_full_is}
use Rattle.low_planner.proofs.sweep.next_full.Goals as goal

pub returns : goal.returns
returns c =
    let some = c.resolution-end.ensures.whole in
    let end : c.resolution-end.result - 1 + 1 ≡ c.args.planes.now.resolution = omega (arith, some.some, c.resolution-end.ensures.value) in
    next_full_is c.args.planes.now c.of.result c.args.from (c.resolution-end.result - 1) c.first_full.result c.requires end c.of.ensures.corners c.first_full.ensures
