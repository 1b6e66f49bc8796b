use Rattle.std.proofs.Common.{◌≡◌, ◌+◌, ◌-◌, ◌*◌, ◌≤◌, find}
use Rattle.vox_geom.specs.Space.{place}
use Rattle.nano_spec.specs.Matrix.{is_full}
use Rattle.vox_planes.specs.Walk.{coordinates_from, passes_in, row_size, row_start, wall_size}
use Rattle.vox_planes.proofs.planes.Planes.wall_full.Given as goal

abbrev pub invariant-loop-y : goal.invariant-loop-y
invariant-loop-y g l = record {
  same : find (passes_in l.b (is_full l.self)) (coordinates_from l.self.resolution (place l.self.resolution (row_start l.b l.x l.y))) ≡ find (passes_in l.b (is_full l.self)) (coordinates_from l.self.resolution (place l.self.resolution (row_start l.b l.x l.b.low.y)));
  touches : l.steps + (l.b.high.y + 1 - l.y) * row_size l.b ≤ l.initial.steps + wall_size l.b;
}
