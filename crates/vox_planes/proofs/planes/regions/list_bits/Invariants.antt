use Rattle.std.proofs.Common.{◌≡◌, ◌+◌, ◌-◌, ◌/◌, ◌^◌, ◌≤◌, ◌++◌, filter, length}
use Rattle.vox_planes.specs.Bits.{has_bit}
use Rattle.vox_planes.specs.Walk.{at, row}
use Rattle.vox_planes.proofs.planes.regions.list_bits.Given as goal

abbrev pub invariant-loop-left : goal.invariant-loop-left
invariant-loop-left l = record {
  low : l.first.z ≤ l.z;
  high : l.z ≤ l.end;
  bits : l.left ≡ l.bits / 2 ^ (l.z - l.first.z);
  items : l.list.items ++ filter (has_bit l.bits l.first) (row (at l.first l.z) l.last) ≡ l.initial.list.items ++ filter (has_bit l.bits l.first) (row l.first l.last);
  room : l.initial.list.spare + length l.initial.list.items ≤ l.list.spare + length l.list.items;
  spare : l.initial.list.spare ≤ l.list.spare + (l.z - l.first.z);
}

abbrev pub decreases-loop-left : goal.decreases-loop-left
decreases-loop-left l = l.end - l.z
