use Rattle.std.proofs.Common.{◌≡◌, ◌+◌, ◌-◌, ◌≤◌, ◌++◌, filter, length}
use Rattle.vox_planes.specs.Voxel.{is_state}
use Rattle.vox_planes.specs.Walk.{at, row}
use Rattle.vox_planes.proofs.planes.Planes.list_row.Given as goal

abbrev pub invariant-loop-z : goal.invariant-loop-z
invariant-loop-z g l = record {
  low : l.first.z ≤ l.z;
  high : l.z ≤ l.last + 1;
  items : l.list.items ++ filter (is_state l.self l.full) (row (at l.first l.z) l.last) ≡ l.initial.list.items ++ filter (is_state l.self l.full) (row l.first l.last);
  room : l.initial.list.spare + length l.initial.list.items ≤ l.list.spare + length l.list.items;
  left : l.initial.list.spare + (l.last + 1 - l.z) ≤ l.list.spare + (l.last + 1 - l.first.z);
  touches : l.steps + (l.last + 1 - l.z) ≤ l.initial.steps + (l.last + 1 - l.first.z);
}

abbrev pub decreases-loop-z : goal.decreases-loop-z
decreases-loop-z g l = l.last + 1 - l.z
