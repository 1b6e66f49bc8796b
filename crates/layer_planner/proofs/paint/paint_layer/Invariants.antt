use Rattle.std.proofs.Common.{◌+◌, ◌*◌}
use Rattle.layer_planner.specs.Painting.{Paints, row_bytes}
use Rattle.plan_tape.specs.Parts.{in_layer}
use Rattle.layer_planner.proofs.paint.paint_layer.Given as goal
use Rattle.vox_geom.specs.Point.{coord}

-- the first x rows of the layer are painted
abbrev pub invariant-loop-x : goal.invariant-loop-x
invariant-loop-x l = record {
  paints : Paints l.initial.tape l.tape l.goal (in_layer l.x l.y) (coord 0 (l.y + 1) 0) (coord l.x (l.y + 1) 0) (l.x * row_bytes l.initial.tape.matrix.resolution);
}
