use Rattle.std.proofs.Common.{take, ◌&&◌, ℕ}
use Rattle.vox_geom.specs.Point.{point}
use Rattle.vox_geom.specs.Region.{is_within, span}
use Rattle.step_groups.specs.Boxes.{IsBoxIn, in_boxes}
use Rattle.vox_geom.specs.Least.{LeastOf}
use Rattle.step_groups.proofs.boxes.clash_box.Given as goal

abbrev pub invariant-loop-j : goal.invariant-loop-j
invariant-loop-j l = (r : ℕ) → IsBoxIn r l.s → LeastOf r (λ c. is_within (span l.s) (point c) && in_boxes (take l.j l.boxes) c) l.least
