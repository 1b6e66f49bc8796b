use Rattle.std.proofs.Common.{◌≡◌, ◌-◌, ◌≤◌}
use Rattle.group_planner.specs.Runs.{IsCut, runs_before}
use Rattle.group_planner.proofs.count.row_runs.Given as goal

-- the runs that begin before z are counted, and none goes across it
abbrev pub invariant-loop-run : goal.invariant-loop-run
invariant-loop-run l = record {
  value : l.runs ≡ runs_before l.planes l.x l.y l.z;
  most : l.runs ≤ l.z;
  cut : IsCut l.planes l.x l.y l.z;
  within : l.z ≤ l.planes.resolution;
}

abbrev pub decreases-loop-run : goal.decreases-loop-run
decreases-loop-run l = l.planes.resolution - l.z
