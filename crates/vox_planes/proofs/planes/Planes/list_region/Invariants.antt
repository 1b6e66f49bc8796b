use Rattle.std.proofs.Common.{◌≡◌, ◌+◌, ◌-◌, ◌*◌, ◌≤◌, ◌++◌, filter, length}
use Rattle.vox_geom.specs.Region.{size, span}
use Rattle.vox_geom.specs.Space.{place}
use Rattle.nano_spec.specs.Matrix.{all_of}
use Rattle.vox_planes.specs.Voxel.{is_state}
use Rattle.vox_planes.specs.Walk.{coordinates_from, passes_in, row_start, wall_size}
use Rattle.vox_planes.proofs.planes.Planes.list_region.Given as goal

abbrev pub invariant-loop-x : goal.invariant-loop-x
invariant-loop-x g l = record {
  items : l.list.items ++ filter (passes_in l.b (is_state l.self l.full)) (coordinates_from l.self.resolution (place l.self.resolution (row_start l.b l.x l.b.low.y))) ≡ l.initial.list.items ++ filter (passes_in l.b (is_state l.self l.full)) (all_of l.self);
  room : l.initial.list.spare + length l.initial.list.items ≤ l.list.spare + length l.list.items;
  left : l.initial.list.spare + (l.b.high.x + 1 - l.x) * wall_size l.b ≤ l.list.spare + size (span l.b);
  touches : l.steps + (l.b.high.x + 1 - l.x) * wall_size l.b ≤ l.initial.steps + size (span l.b);
}
