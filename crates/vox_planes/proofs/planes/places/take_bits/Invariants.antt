use Rattle.std.proofs.Common.{◌+◌, ◌-◌, ◌≤◌}
use Rattle.vox_planes.proofs.TakenBits.{AreTaken}
use Rattle.vox_planes.proofs.planes.places.take_bits.Given as goal

abbrev pub invariant-loop-done : goal.invariant-loop-done
invariant-loop-done g l = record {
  so_far : AreTaken l.initial.words l.words l.index l.done l.bits l.taken;
  few : l.done ≤ l.count;
  touches : l.steps ≤ l.initial.steps + l.done;
}

abbrev pub decreases-loop-done : goal.decreases-loop-done
decreases-loop-done g l = l.count - l.done
