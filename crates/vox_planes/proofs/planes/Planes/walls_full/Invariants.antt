use Rattle.std.proofs.Common.{◌≡◌, ◌+◌, ◌-◌, ◌*◌, ◌≤◌, find}
use Rattle.vox_geom.specs.Region.{size, span}
use Rattle.vox_geom.specs.Space.{place}
use Rattle.nano_spec.specs.Matrix.{all_of, is_full}
use Rattle.vox_planes.specs.Walk.{coordinates_from, passes_in, row_start, wall_size}
use Rattle.vox_planes.proofs.planes.Planes.walls_full.Given as goal

abbrev pub invariant-loop-x : goal.invariant-loop-x
invariant-loop-x g l = record {
  same : find (passes_in l.b (is_full l.self)) (coordinates_from l.self.resolution (place l.self.resolution (row_start l.b l.x l.b.low.y))) ≡ find (passes_in l.b (is_full l.self)) (all_of l.self);
  touches : l.steps + (l.b.high.x + 1 - l.x) * wall_size l.b ≤ l.initial.steps + size (span l.b);
}
