use Rattle.std.proofs.Common.{◌+◌, ◌*◌}
use Rattle.layer_planner.specs.Painting.{Paints, layer_bytes}
use Rattle.plan_tape.specs.Parts.{below_layer}
use Rattle.layer_planner.proofs.paint.build.Given as goal
use Rattle.vox_geom.specs.Point.{coord}

-- the layers below that of y are those of the goal
abbrev pub invariant-loop-y : goal.invariant-loop-y
invariant-loop-y l = record {
  paints : Paints l.initial.tape l.tape l.goal (below_layer l.y) (coord 0 (l.low + 1) 0) (coord 0 (l.y + 1) 0) (l.y * layer_bytes l.initial.tape.matrix.resolution);
}
