use Rattle.std.proofs.Common.{◌≡◌, ◌+◌, ◌-◌, ◌≤◌}
use Rattle.model_file.specs.Words.{IsReadTo, place_of_row}
use Rattle.model_file.proofs.first_form.set_row.Given as goal

abbrev pub invariant-loop-z : goal.invariant-loop-z
invariant-loop-z l = record {
  within : l.z ≤ l.initial.planes.resolution;
  read : IsReadTo l.planes l.bytes (place_of_row l.initial.planes.resolution l.x l.y + l.z);
  resolution : l.planes.resolution ≡ l.initial.planes.resolution;
}

abbrev pub decreases-loop-z : goal.decreases-loop-z
decreases-loop-z l = l.initial.planes.resolution - l.z
