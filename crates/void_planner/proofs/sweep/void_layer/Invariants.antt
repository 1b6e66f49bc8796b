use Rattle.std.proofs.Common.{◌+◌, ◌-◌, ◌*◌}
use Rattle.void_planner.specs.Square.{Clears, strip_steps}
use Rattle.void_planner.specs.Tiles.{edge, place_of, turned}
use Rattle.void_planner.specs.Bounds.{tiles_of}
use Rattle.void_planner.proofs.Sweeps.{AreVoidStrips}
use Rattle.void_planner.proofs.sweep.void_layer.Given as goal
use Rattle.vox_geom.specs.Point.{coord}

-- the first k strips are void
abbrev pub invariant-loop-k : goal.invariant-loop-k
invariant-loop-k l = record {
  clears : Clears l.initial.tape l.tape (coord (edge l.initial.tape.matrix.resolution l.turn) (l.y + 1) (edge l.initial.tape.matrix.resolution l.back)) (coord (place_of l.initial.tape.matrix.resolution (turned (tiles_of l.initial.tape.matrix.resolution) l.turn (l.k - 1))) (l.y + 1) (edge l.initial.tape.matrix.resolution l.next)) (strip_steps l.initial.tape.matrix.resolution * l.k);
  void : AreVoidStrips l.tape.matrix l.initial.tape.matrix.resolution l.turn l.y l.k;
}
