use Rattle.std.proofs.Common.{◌∙◌, ap, sym}
use Rattle.std.specs.List.{list_any}
use Rattle.vox_geom.specs.Point.{plus, point, same_point}
use Rattle.vox_geom.proofs.Truths.{or_false}
use Rattle.step_groups.specs.Judging.{at_corner}
use Rattle.step_groups.proofs.shapes.is_corner.Goals as goal

pub returns-in-Some : goal.returns-in-Some
returns-in-Some c =
    c.same_corner.ensures
    ∙ (sym (or_false (same_point (plus (point c.args.p) c.args.d) (plus (point c.args.q) c.in-Some.e)))
    ∙ ap (list_any (same_point (plus (point c.args.p) c.args.d))) (sym (c.corner_of.ensures ∙ ap (at_corner (point c.args.q)) c.in-Some.is)))

pub returns-in-None : goal.returns-in-None
returns-in-None c = ap (list_any (same_point (plus (point c.args.p) c.args.d))) (sym (c.corner_of.ensures ∙ ap (at_corner (point c.args.q)) c.in-None.is))
