use Rattle.std.proofs.Common.{◌≡◌, ◌+◌, ◌*◌}
use Rattle.vox_planes.proofs.Differences.{AreAlike}
use Rattle.vox_planes.proofs.planes.Planes.layer_difference.Given as goal

abbrev pub invariant-loop-i : goal.invariant-loop-i
invariant-loop-i g l = record {
  alike : AreAlike l.self-inside.words.items l.other-inside.words.items l.first (64 * l.i);
  touches : l.steps ≡ l.initial.steps + 2 * l.i;
}
