use Rattle.std.proofs.Common.{◌≡◌, ◌+◌, ◌*◌, ◌/◌, ◌≤◌}
use Rattle.vox_planes.specs.Bits.{AreClear}
use Rattle.vox_planes.proofs.planes.lines.next_above.Given as goal

abbrev pub invariant-loop-n : goal.invariant-loop-n
invariant-loop-n g l = record {
  word : l.word ≡ l.from / 64 + l.n * l.apart;
  free : AreClear l.words l.from (l.apart * 64) l.n;
  touches : l.steps ≤ l.initial.steps + l.n;
}
