use Rattle.std.proofs.Common.{◌+◌, ◌*◌}
use Rattle.layer_planner.specs.Painting.{Paints}
use Rattle.plan_tape.specs.Parts.{in_row}
use Rattle.layer_planner.proofs.paint.paint_row.Given as goal
use Rattle.vox_geom.specs.Point.{coord}

-- the first z voxels of the row are painted
abbrev pub invariant-loop-z : goal.invariant-loop-z
invariant-loop-z l = record {
  paints : Paints l.initial.tape l.tape l.goal (in_row l.x l.y l.z) (coord l.x (l.y + 1) 0) (coord l.x (l.y + 1) l.z) (3 * l.z);
}
