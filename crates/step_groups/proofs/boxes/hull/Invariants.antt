use Rattle.std.proofs.Common.{take}
use Rattle.step_groups.specs.Boxes.{IsHull}
use Rattle.step_groups.proofs.boxes.hull.Given as goal

abbrev pub invariant-loop-i : goal.invariant-loop-i
invariant-loop-i l = IsHull l.all (take l.i l.boxes)
