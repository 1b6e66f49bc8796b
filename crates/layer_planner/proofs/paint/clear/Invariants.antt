use Rattle.std.proofs.Common.{◌-◌, ◌*◌, ◌<◌, ◌≤◌}
use Rattle.layer_planner.specs.Painting.{Paints, layer_bytes}
use Rattle.plan_tape.specs.Parts.{from_layer}
use Rattle.layer_planner.proofs.paint.clear.Given as goal
use Rattle.vox_geom.specs.Point.{coord}
use Rattle.plan_tape.specs.Progress.{top}

-- the layers from that of y on are void
abbrev pub invariant-loop-y : goal.invariant-loop-y
invariant-loop-y l = record {
  paints : Paints l.initial.tape l.tape l.nothing (from_layer l.y) (top l.initial.tape.matrix) (coord 0 l.y 0) ((l.initial.tape.matrix.resolution - 1 - l.y) * layer_bytes l.initial.tape.matrix.resolution);
  within : l.y < l.initial.tape.matrix.resolution;
  low : l.low ≤ l.y;
}

abbrev pub decreases-loop-y : goal.decreases-loop-y
decreases-loop-y l = l.y
