use Rattle.std.proofs.Common.{◌≡◌, ◌+◌, ◌-◌, ◌*◌, ◌<◌, ◌≤◌}
use Rattle.low_planner.specs.Sweep.{AreSwept, IsWithinReach}
use Rattle.low_planner.proofs.sweep.Sweep.start.Given as goal

-- all resting voxels before the search's position were visited
abbrev pub invariant-loop-from : goal.invariant-loop-from
invariant-loop-from l = record {
  resolution : l.resolution ≡ l.target.resolution;
  x : l.from.x < l.resolution;
  y : l.from.y ≤ l.resolution;
  z : l.from.z < l.resolution;
  up : l.self.at.y ≤ l.from.y;
  near : IsWithinReach l.resolution l.self.at l.from;
  swept : AreSwept l.target l.self.remaining l.from;
}

abbrev pub decreases-loop-from : goal.decreases-loop-from
decreases-loop-from l = (l.resolution - l.from.y) * l.resolution + (l.resolution - l.from.x)
