use Rattle.std.proofs.Common.{◌+◌, ◌*◌}
use Rattle.swarm_planner.specs.Building.{Builds, cells}
use Rattle.swarm_planner.proofs.paint.paint_line.Given as goal
use Rattle.vox_geom.specs.Point.{coord}

-- the first z voxels of the line are built
abbrev pub invariant-loop-z : goal.invariant-loop-z
invariant-loop-z l = record {
  builds : Builds l.initial.tape l.tape l.target (cells l.initial.tape.matrix.resolution l.x l.y l.z) (coord l.x (l.y + 1) 0) (coord l.x (l.y + 1) l.z) (2 * l.z);
}
