use Rattle.std.proofs.Common.{◌≡◌}
use Rattle.model_file.specs.Words.{IsReadTo, place_of_row}
use Rattle.model_file.proofs.first_form.set_wall.Given as goal

abbrev pub invariant-loop-y : goal.invariant-loop-y
invariant-loop-y l = record {
  read : IsReadTo l.planes l.bytes (place_of_row l.initial.planes.resolution l.x l.y);
  resolution : l.planes.resolution ≡ l.initial.planes.resolution;
}
