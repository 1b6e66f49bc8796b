use Rattle.std.proofs.Common.{◌+◌, ◌-◌, ◌≤◌}
use Rattle.vox_planes.proofs.Filled.{AreFilled}
use Rattle.vox_planes.proofs.planes.painting.set_bits.Given as goal

abbrev pub invariant-loop-done : goal.invariant-loop-done
invariant-loop-done g l = record {
  so_far : AreFilled l.initial.words l.words l.index l.done l.full l.changed;
  few : l.done ≤ l.count;
  most : l.changed ≤ l.done;
  touches : l.steps ≤ l.initial.steps + l.done;
}

abbrev pub decreases-loop-done : goal.decreases-loop-done
decreases-loop-done g l = l.count - l.done
