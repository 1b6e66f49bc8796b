use Rattle.std.proofs.Common.{◌+◌, ◌-◌, ◌≤◌}
use Rattle.vox_planes.specs.Bits.{LacksValue}
use Rattle.vox_planes.proofs.planes.regions.next_bit.Given as goal

abbrev pub invariant-loop-at : goal.invariant-loop-at
invariant-loop-at g l = record {
  low : l.from ≤ l.at;
  free : LacksValue l.words l.from l.at l.value;
  touches : l.steps + l.from ≤ l.initial.steps + l.at;
  touches_end : l.steps + (l.end - l.at) ≤ l.initial.steps + (l.end - l.from);
}

abbrev pub decreases-loop-at : goal.decreases-loop-at
decreases-loop-at g l = l.end - l.at
