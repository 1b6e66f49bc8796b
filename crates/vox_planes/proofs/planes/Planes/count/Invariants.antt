use Rattle.std.proofs.Common.{◌≡◌, ◌+◌, ◌*◌, ◌≤◌}
use Rattle.vox_planes.proofs.Totals.{bits_below}
use Rattle.vox_planes.proofs.planes.Planes.count.Given as goal

abbrev pub invariant-loop-word : goal.invariant-loop-word
invariant-loop-word g l = record {
  sum : l.full ≡ bits_below l.word-items (64 * l.word-index);
  below : l.full ≤ 64 * l.word-index;
  touches : l.steps ≡ l.initial.steps + l.word-index;
}
