use Rattle.std.proofs.Common.{◌-◌}
use Rattle.group_planner.proofs.sweep.+write_runs_back.Given as goal

abbrev pub decreases-write_runs_back : goal.decreases-write_runs_back
decreases-write_runs_back l = l.model.now.resolution - l.z
