use Rattle.std.proofs.Common.{◌+◌, ◌-◌, ◌*◌}
use Rattle.void_planner.specs.Square.{Clears}
use Rattle.void_planner.specs.Tiles.{edge, place_of, turned}
use Rattle.void_planner.specs.Bounds.{tiles_of}
use Rattle.void_planner.proofs.Sweeps.{AreVoidTiles}
use Rattle.void_planner.proofs.sweep.void_strip.Given as goal
use Rattle.vox_geom.specs.Point.{coord}

-- the first k tiles are void
abbrev pub invariant-loop-k : goal.invariant-loop-k
invariant-loop-k l = record {
  clears : Clears l.initial.tape l.tape (coord l.x (l.y + 1) (edge l.initial.tape.matrix.resolution l.back)) (coord l.x (l.y + 1) (place_of l.initial.tape.matrix.resolution (turned (tiles_of l.initial.tape.matrix.resolution) l.back (l.k - 1)))) (4 * l.k);
  void : AreVoidTiles l.tape.matrix l.initial.tape.matrix.resolution l.back l.x l.y l.k;
}
