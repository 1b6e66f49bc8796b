use Rattle.std.proofs.Common.{◌+◌, ◌*◌}
use Rattle.swarm_planner.specs.Building.{Builds, line_steps, in_first_lines}
use Rattle.swarm_planner.proofs.paint.paint_layer.Given as goal
use Rattle.vox_geom.specs.Point.{coord}

-- the first x lines of the layer are built
abbrev pub invariant-loop-x : goal.invariant-loop-x
invariant-loop-x l = record {
  builds : Builds l.initial.tape l.tape l.target (in_first_lines l.initial.tape.matrix.resolution l.x l.y) (coord 1 (l.y + 1) 0) (coord (l.x + 1) (l.y + 1) 0) (l.x * line_steps l.initial.tape.matrix.resolution);
}
