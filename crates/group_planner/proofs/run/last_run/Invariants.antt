use Rattle.std.proofs.Common.{◌-◌}
use Rattle.group_planner.specs.Runs.{IsRun}
use Rattle.group_planner.proofs.run.last_run.Given as goal

abbrev pub invariant-loop-next : goal.invariant-loop-next
invariant-loop-next l = IsRun l.planes l.x l.y l.last

abbrev pub decreases-loop-next : goal.decreases-loop-next
decreases-loop-next l = l.planes.resolution - l.last.end
