use Rattle.std.proofs.Common.{sym, arith}
use Rattle.group_planner.specs.Rows.{runs_of_row}
use Rattle.group_planner.proofs.Counts.{sum_below-more, sum_below-zero}
use Rattle.group_planner.proofs.count.layer_runs.Goals as goal

pub loop-x-init : goal.loop-x-init
loop-x-init c = record { value = sym (sum_below-zero (λ x. runs_of_row c.args.planes.now x c.args.y)); most = omega arith }

pub loop-x-preserved : goal.loop-x-preserved
loop-x-preserved c =
    let more = sum_below-more (λ x. runs_of_row c.args.planes.now x c.args.y) c.loop-x.x in
    let value = c.loop-x.invariant.value in
    let most = c.loop-x.invariant.most in
    record { value = omega (arith, more, value, c.row_runs-runs.ensures.value); most = omega (arith, most, c.row_runs-runs.ensures.most) }
