use Rattle.std.proofs.Common.{◌+◌, ◌-◌, ◌*◌}
use Rattle.plan_tape.specs.Progress.{spot}
use Rattle.swarm_planner.specs.Strips.{count}
use Rattle.swarm_planner.proofs.Gathering.{AreLeft}
use Rattle.swarm_planner.proofs.crew.gather.Given as goal
use Rattle.vox_geom.specs.Point.{coord}

-- the number of bots left
abbrev pub invariant-loop-merged : goal.invariant-loop-merged
invariant-loop-merged l = record {
  left : AreLeft l.fn.tape l.tape (coord (spot l.fn.tape.bots).x (spot l.fn.tape.bots).y 0) (count l.fn.tape.matrix.resolution + 1 - l._merged) ((spot l.fn.tape.bots).z + 21 * (l._merged - 1));
}
