use Rattle.std.proofs.Common.{◌∙◌, ap, inl, inr, sym}
use Rattle.vox_geom.specs.declared.coordinate.Coord.{Coord}
use Rattle.vox_geom.specs.Region.{AreShared}
use Rattle.step_groups.specs.Boxes.{in_boxes}
use Rattle.step_groups.proofs.Lone.{in_more_boxes, none_of}
use Rattle.step_groups.proofs.Shared.{take_one}
use Rattle.step_groups.proofs.apart.is_apart.Goals as goal

pub loop-j-preserved : goal.loop-j-preserved
loop-j-preserved c = λ q h t.
    let others = c.args.others.now in
    let other = c.index-others-j.result in
    elim (in_more_boxes _ other q (sym (ap (λ ks. in_boxes ks q) (take_one others c.loop-j.j other c.loop-j-test.true c.index-others-j.is)) ∙ t)) [
      | inl i ↦ c.loop-j.invariant q h i
      | inr i ↦ none_of c.meets-in-loop-j.result ((d : Coord) → AreShared c.args.hull.now other d → ⊥) (sym c.is_some.ensures ∙ c.if-is_some.false) c.meets-in-loop-j.ensures.none q (h, i)
    ]
