use Rattle.std.proofs.Common.{◌+◌, ◌*◌}
use Rattle.swarm_planner.specs.Building.{Builds, swarm_layer_steps, layers}
use Rattle.swarm_planner.proofs.paint.build.Given as goal
use Rattle.vox_geom.specs.Point.{coord}

-- the layers below that of y are built
abbrev pub invariant-loop-y : goal.invariant-loop-y
invariant-loop-y l = record {
  builds : Builds l.initial.tape l.tape l.target (layers l.initial.tape.matrix.resolution l.y) (coord 1 1 0) (coord 1 (l.y + 1) 0) (l.y * swarm_layer_steps l.initial.tape.matrix.resolution);
}
