use Rattle.std.proofs.Common.{◌≡◌, ◌+◌, ◌-◌, ◌*◌, ◌≤◌, ◌++◌, filter, length}
use Rattle.vox_geom.specs.Space.{place}
use Rattle.vox_planes.specs.Voxel.{is_state}
use Rattle.vox_planes.specs.Walk.{coordinates_from, passes_in, row_size, row_start, wall_size}
use Rattle.vox_planes.proofs.planes.Planes.list_wall.Given as goal

abbrev pub invariant-loop-y : goal.invariant-loop-y
invariant-loop-y g l = record {
  items : l.list.items ++ filter (passes_in l.b (is_state l.self l.full)) (coordinates_from l.self.resolution (place l.self.resolution (row_start l.b l.x l.y))) ≡ l.initial.list.items ++ filter (passes_in l.b (is_state l.self l.full)) (coordinates_from l.self.resolution (place l.self.resolution (row_start l.b l.x l.b.low.y)));
  room : l.initial.list.spare + length l.initial.list.items ≤ l.list.spare + length l.list.items;
  left : l.initial.list.spare + (l.b.high.y + 1 - l.y) * row_size l.b ≤ l.list.spare + wall_size l.b;
  touches : l.steps + (l.b.high.y + 1 - l.y) * row_size l.b ≤ l.initial.steps + wall_size l.b;
}
