use Rattle.std.proofs.Common.{◌≡◌, ◌+◌, ◌-◌, ◌*◌, ◌≤◌}
use Rattle.swarm_planner.specs.Strips.{count, last, bot_row, strip_row}
use Rattle.swarm_planner.specs.Bounds.{width}
use Rattle.swarm_planner.specs.Building.{are_wanted}
use Rattle.swarm_planner.proofs.paint.has_wanted.Given as goal
use Rattle.vox_geom.specs.Point.{coord}

-- missing voxels are below the remaining positions
abbrev pub invariant-loop-strip : goal.invariant-loop-strip
invariant-loop-strip l = record {
  left : are_wanted l.tape.matrix l.target (bot_row (width l.tape.matrix.resolution) (last l.tape.matrix.resolution) (count l.tape.matrix.resolution - l._strip) (coord l.x l.to.y l.to.z)) ≡ are_wanted l.tape.matrix l.target (strip_row l.tape.matrix.resolution l.to);
  bound : l.x ≤ l.to.x + 20 * l._strip;
}
