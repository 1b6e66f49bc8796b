use Rattle.std.proofs.Common.{take}
use Rattle.std.specs.Prelude.{IsTrue}
use Rattle.vox_geom.specs.declared.coordinate.Coord.{Coord}
use Rattle.vox_geom.specs.Point.{point}
use Rattle.vox_geom.specs.Region.{is_within, span}
use Rattle.step_groups.specs.Boxes.{in_boxes}
use Rattle.step_groups.proofs.apart.is_apart.Given as goal

abbrev pub invariant-loop-j : goal.invariant-loop-j
invariant-loop-j l = (c : Coord) → IsTrue (is_within (span l.hull) (point c)) → IsTrue (in_boxes (take l.j l.others) c) → ⊥
