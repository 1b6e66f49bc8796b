use Rattle.std.proofs.Common.{sym, arith}
use Rattle.group_planner.specs.Rows.{rows_of_layer}
use Rattle.group_planner.proofs.Counts.{sum_below-more, sum_below-zero}
use Rattle.group_planner.proofs.count.rows.Goals as goal

pub loop-y-init : goal.loop-y-init
loop-y-init c = record { value = sym (sum_below-zero (rows_of_layer c.args.planes.now)); most = omega arith }

pub loop-y-preserved : goal.loop-y-preserved
loop-y-preserved c =
    let more = sum_below-more (rows_of_layer c.args.planes.now) c.loop-y.y in
    let value = c.loop-y.invariant.value in
    let most = c.loop-y.invariant.most in
    record { value = omega (arith, more, value, c.layer_rows-rows.ensures.value); most = omega (arith, most, c.layer_rows-rows.ensures.most) }
