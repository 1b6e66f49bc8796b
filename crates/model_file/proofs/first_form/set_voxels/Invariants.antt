use Rattle.std.proofs.Common.{◌≡◌}
use Rattle.model_file.specs.Words.{IsReadTo, place_of_row}
use Rattle.model_file.proofs.first_form.set_voxels.Given as goal

abbrev pub invariant-loop-x : goal.invariant-loop-x
invariant-loop-x l = record {
  read : IsReadTo l.planes l.bytes (place_of_row l.initial.planes.resolution l.x 0);
  resolution : l.planes.resolution ≡ l.initial.planes.resolution;
}
