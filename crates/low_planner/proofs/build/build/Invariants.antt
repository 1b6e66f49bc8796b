use Rattle.std.proofs.Common.{◌≤◌}
use Rattle.low_planner.specs.Build.{IsBuilt}
use Rattle.low_planner.specs.Sweep.{IsSweep, sweep_weight}
use Rattle.low_planner.proofs.build.build.Given as goal

-- the visited voxels are built
abbrev pub invariant-loop-visit : goal.invariant-loop-visit
invariant-loop-visit l = record {
  sweep : IsSweep l.target l.sweep;
  built : IsBuilt l.target l.sweep l.tape;
  most : l.target.resolution ≤ 400;
}

abbrev pub decreases-loop-visit : goal.decreases-loop-visit
decreases-loop-visit l = sweep_weight l.sweep
