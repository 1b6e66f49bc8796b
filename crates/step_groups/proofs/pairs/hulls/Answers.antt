use Rattle.std.proofs.Common.{◌+◌, ◌++◌, ◌∙◌, [], ◌∷◌, List, ap, arith, length-append, subst, sym, take}
use Rattle.vox_geom.specs.Region.{Corners}
use Rattle.step_groups.specs.Boxes.{IsHull}
use Rattle.step_groups.specs.Groups.{AreHulls}
use Rattle.step_groups.specs.declared.groups.Group.{Group}
use Rattle.step_groups.proofs.Hulls.{one_more}
use Rattle.step_groups.proofs.Shared.{take_one}
use Rattle.step_groups.proofs.pairs.hulls.Goals as goal

pub loop-i-preserved : goal.loop-i-preserved
loop-i-preserved c =
    let group = c.index-groups-i.result in
    let i = c.loop-i.i in
    let groups = c.args.groups.now in
    record {
      lengths = rw c.push.ensures.items (simp length-append (omega (arith, c.loop-i.invariant.lengths)));
      hulls =
          subst (λ (hs : List Corners). AreHulls hs (take (i + 1) groups)) (sym c.push.ensures.items)
          (subst (λ (gs : List Group). AreHulls (c.loop-i.arounds.items ++ c.hull.result ∷ []) gs) (sym (take_one groups i group c.loop-i-test.true c.index-groups-i.is))
          (one_more c.loop-i.arounds.items (take i groups) c.hull.result group c.loop-i.invariant.hulls (subst (λ (boxes : List Corners). IsHull c.hull.result boxes) (c.as_slice.ensures.value ∙ ap (λ (g : Group). g.boxes.items) (sym c.index-groups-i.is)) c.hull.ensures)));
    }
