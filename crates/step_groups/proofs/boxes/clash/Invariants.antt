use Rattle.std.proofs.Common.{take, ◌&&◌, ℕ}
use Rattle.step_groups.specs.Boxes.{AreBoxesIn, in_boxes}
use Rattle.vox_geom.specs.Least.{LeastOf}
use Rattle.step_groups.proofs.boxes.clash.Given as goal

abbrev pub invariant-loop-i : goal.invariant-loop-i
invariant-loop-i l = (r : ℕ) → AreBoxesIn r l.first → LeastOf r (λ c. in_boxes (take l.i l.first) c && in_boxes l.second c) l.least
