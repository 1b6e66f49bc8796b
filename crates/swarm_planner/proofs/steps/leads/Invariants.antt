use Rattle.std.proofs.Common.{◌≡◌, ◌+◌, ◌*◌, ◌≤◌, ◌++◌, drop, take}
use Rattle.swarm_planner.specs.Crew.{AreNear, row_led}
use Rattle.swarm_planner.proofs.steps.leads.Given as goal
use Rattle.vox_geom.specs.Point.{coord}

-- the commands so far and those of the bots that are left
abbrev pub invariant-loop-i : goal.invariant-loop-i
invariant-loop-i l = record {
  whole : take l.i l.commands ++ row_led l.axis l.width l.last (drop l.i l.bots) (coord l.x l.to.y l.to.z) ≡ row_led l.axis l.width l.last l.bots l.to;
  near : AreNear l.axis l.width l.last (drop l.i l.bots) (coord l.x l.to.y l.to.z);
  bound : l.x ≤ 400 + 20 * l.i;
}
