use Rattle.std.proofs.Common.{sym, arith}
use Rattle.group_planner.specs.Rows.{begins_run, one_if}
use Rattle.group_planner.proofs.Counts.{sum_below-zero}
use Rattle.group_planner.proofs.Found.{cut_at_start}
use Rattle.group_planner.proofs.count.row_runs.Goals as goal

pub loop-run-init : goal.loop-run-init
loop-run-init c = record { value = sym (sum_below-zero (λ z. one_if (begins_run c.args.planes.now c.args.x c.args.y z))); most = omega arith; cut = cut_at_start c.args.planes.now c.args.x c.args.y; within = omega arith }
