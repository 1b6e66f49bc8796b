use Rattle.std.proofs.Common.{◌-◌, ◌*◌, ◌<◌}
use Rattle.void_planner.specs.Square.{Clears}
use Rattle.void_planner.specs.Tiles.{edge}
use Rattle.void_planner.proofs.Sweeps.{fro_steps}
use Rattle.void_planner.proofs.sweep.void_all.Given as goal
use Rattle.vox_geom.specs.Point.{coord}
use Rattle.plan_tape.specs.Progress.{IsVoidFrom}

-- the layers from that of y on are void
abbrev pub invariant-loop-y : goal.invariant-loop-y
invariant-loop-y l = record {
  clears : Clears l.initial.tape l.tape (coord 0 (l.initial.tape.matrix.resolution - 1) 0) (coord (edge l.initial.tape.matrix.resolution l.turn) l.y (edge l.initial.tape.matrix.resolution l.back)) ((l.initial.tape.matrix.resolution - 1 - l.y) * fro_steps l.initial.tape.matrix.resolution);
  void : IsVoidFrom l.tape.matrix l.y;
  within : l.y < l.initial.tape.matrix.resolution;
}

abbrev pub decreases-loop-y : goal.decreases-loop-y
decreases-loop-y l = l.y
