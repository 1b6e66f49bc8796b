use Rattle.std.proofs.Common.{◌+◌, ◌-◌, ◌≤◌}
use Rattle.vox_planes.specs.Places.{voxel_at}
use Rattle.vox_planes.proofs.Placed.{HasBits}
use Rattle.vox_planes.proofs.planes.Planes.places.Given as goal

abbrev pub invariant-loop-done : goal.invariant-loop-done
invariant-loop-done g l = record {
  bits : HasBits l.bits l.done (λ j. voxel_at l.self (l.from + j));
  few : l.done ≤ l.count;
  touches : l.steps ≤ l.initial.steps + l.done;
}

abbrev pub decreases-loop-done : goal.decreases-loop-done
decreases-loop-done g l = l.count - l.done
