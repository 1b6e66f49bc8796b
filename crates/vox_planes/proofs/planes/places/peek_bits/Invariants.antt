use Rattle.std.proofs.Common.{◌+◌, ◌-◌, ◌≤◌, ◌&&◌}
use Rattle.nano_spec.specs.Model.{bit}
use Rattle.vox_planes.specs.Layers.{is_set}
use Rattle.vox_planes.proofs.Placed.{HasBits}
use Rattle.vox_planes.proofs.planes.places.peek_bits.Given as goal

abbrev pub invariant-loop-done : goal.invariant-loop-done
invariant-loop-done g l = record {
  so_far : HasBits l.found l.done (λ k. bit l.bits k && is_set l.words (l.index + k));
  few : l.done ≤ l.count;
  touches : l.steps ≤ l.initial.steps + l.done;
}

abbrev pub decreases-loop-done : goal.decreases-loop-done
decreases-loop-done g l = l.count - l.done
