use Rattle.std.proofs.Common.{◌≡◌, ◌+◌, ◌*◌}
use Rattle.vox_planes.proofs.Heaps.{AreHeld}
use Rattle.vox_planes.proofs.planes.Planes.has_no_overhangs.Given as goal

abbrev pub invariant-loop-i : goal.invariant-loop-i
invariant-loop-i g l = record {
  held : AreHeld l.self-inside.words.items l.layer l.i;
  touches : l.steps + 2 * l.layer ≡ l.initial.steps + 2 * l.i;
}
