use Rattle.std.proofs.Common.{◌≡◌, ◌+◌, ◌*◌, ◌≤◌, length}
use Rattle.vox_planes.proofs.Stacks.{AreDropped}
use Rattle.vox_planes.proofs.planes.whole.drop_stacked.Given as goal

abbrev pub invariant-loop-i : goal.invariant-loop-i
invariant-loop-i g l = record {
  dropped : AreDropped l.initial.left l.left l.full l.layer l.i;
  same : length l.left ≡ length l.full;
  touches : l.steps ≤ l.initial.steps + 4 * l.i;
}
