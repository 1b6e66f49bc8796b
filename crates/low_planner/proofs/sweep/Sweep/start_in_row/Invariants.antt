use Rattle.std.proofs.Common.{◌≡◌, ◌-◌, ◌<◌, ◌≤◌}
use Rattle.low_planner.specs.Sweep.{IsSweptRow}
use Rattle.low_planner.proofs.sweep.Sweep.start_in_row.Given as goal

-- all resting voxels before the search's position were visited
abbrev pub invariant-loop-c : goal.invariant-loop-c
invariant-loop-c l = record {
  x : l.at.x ≡ l.fn.from.x;
  y : l.at.y ≡ l.fn.from.y;
  z : l.fn.from.z ≤ l.at.z;
  within : l.at.z < l.target.resolution;
  swept : IsSweptRow l.target l.self.remaining l.fn.from l.at.z;
}

abbrev pub decreases-loop-c : goal.decreases-loop-c
decreases-loop-c l = l.target.resolution - l.at.z
