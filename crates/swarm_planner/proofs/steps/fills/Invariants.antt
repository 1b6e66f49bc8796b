use Rattle.std.proofs.Common.{◌≡◌, ◌≤◌, ◌++◌, drop, take}
use Rattle.std.specs.List.{AllByRecursion}
use Rattle.vox_geom.specs.Space.{IsInSpace}
use Rattle.swarm_planner.specs.Building.{fills}
use Rattle.swarm_planner.proofs.steps.fills.Given as goal

-- the commands so far and those of the bots that are left
abbrev pub invariant-loop-i : goal.invariant-loop-i
invariant-loop-i l = record {
  whole : take l.i l.commands ++ fills l.planes l.target (drop l.i l.bots) ≡ fills l.planes l.target l.bots;
  within : AllByRecursion (λ b. IsInSpace l.planes.resolution b.pos × (1 ≤ b.pos.y)) (drop l.i l.bots);
}
