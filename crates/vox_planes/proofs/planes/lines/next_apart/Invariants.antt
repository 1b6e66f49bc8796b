use Rattle.std.proofs.Common.{◌≡◌, ◌+◌, ◌*◌, ◌≤◌}
use Rattle.vox_planes.specs.Bits.{AreClear}
use Rattle.vox_planes.proofs.planes.lines.next_apart.Given as goal

abbrev pub invariant-loop-n : goal.invariant-loop-n
invariant-loop-n g l = record {
  at : l.at ≡ l.from + l.n * l.apart;
  free : AreClear l.words l.from l.apart l.n;
  touches : l.steps ≤ l.initial.steps + l.n;
}
