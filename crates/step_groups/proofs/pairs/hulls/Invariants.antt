use Rattle.std.proofs.Common.{◌≡◌, length, take}
use Rattle.step_groups.specs.Groups.{AreHulls}
use Rattle.step_groups.proofs.pairs.hulls.Given as goal

abbrev pub invariant-loop-i : goal.invariant-loop-i
invariant-loop-i l = record {
  lengths : length l.arounds.items ≡ l.i;
  hulls : AreHulls l.arounds.items (take l.i l.groups);
}
