use Rattle.std.proofs.Common.{◌≡◌, ◌+◌, ◌-◌, ◌*◌, ◌≤◌}
use Rattle.group_planner.specs.Pair.{in_part, rear}
use Rattle.group_planner.specs.Runs.{IsCut, runs_before}
use Rattle.group_planner.specs.Stamping.{Stamps, work_to}
use Rattle.group_planner.proofs.sweep.write_runs.Given as goal

-- the runs that begin before z are written, and none goes across it
abbrev pub invariant-loop-run : goal.invariant-loop-run
invariant-loop-run l = record {
  stamps : Stamps l.initial.tape l.tape l.model l.full (in_part l.x l.y 0 l.z) (runs_before l.model l.x l.y l.z);
  x : (rear l.tape).x ≡ l.x;
  y : (rear l.tape).y ≡ l.y + 1;
  cut : IsCut l.model l.x l.y l.z;
  within : l.z ≤ l.model.resolution;
  work : work_to l.tape l.z ≤ work_to l.initial.tape 0 + 45 * runs_before l.model l.x l.y l.z + 2 * l.z;
}

abbrev pub decreases-loop-run : goal.decreases-loop-run
decreases-loop-run l = l.model.resolution - l.z
