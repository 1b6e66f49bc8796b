use Rattle.std.proofs.Common.{◌∙◌, ap, sym, subst, arith}
use Rattle.model_forge.specs.declared.tower.Tower.{Tower}
use Rattle.model_forge.specs.Tower.{IsInside, higher}
use Rattle.model_forge.proofs.Towers.{column_more, not_taller, taller}
use Rattle.model_forge.proofs.tower.Tower.or_higher.Goals.{then-height-tower, else-height-tower}
use Rattle.model_forge.proofs.tower.Tower.or_higher.Goals as goal

pub loop-z-preserved : goal.loop-z-preserved
loop-z-preserved c = elim c.if-height-tower.branch [
  | then-height-tower w ↦ record {
    value = column_more c.args.number c.args.r c.args.x c.loop-z.z c.loop-z.tower c.if-height-tower.tower _ c.loop-z-test.true c.loop-z.invariant.value
        (w.tower-is ∙ (taller c.loop-z.tower c.height-height.result c.loop-z.z w.if-height-tower.true ∙ ap (λ h. higher c.loop-z.tower h c.loop-z.z) c.height-height.ensures.value));
    inside = λ h. subst (λ (t : Tower). IsInside c.args.r t) (sym w.tower-is) (record { low = λ _. c.loop-z.auto.z; high = λ _. omega (arith, c.loop-z-test.true) });
  }
  | else-height-tower w ↦ record {
    value = column_more c.args.number c.args.r c.args.x c.loop-z.z c.loop-z.tower c.if-height-tower.tower _ c.loop-z-test.true c.loop-z.invariant.value
        (w.tower-is ∙ (not_taller c.loop-z.tower c.height-height.result c.loop-z.z w.if-height-tower.false ∙ ap (λ h. higher c.loop-z.tower h c.loop-z.z) c.height-height.ensures.value));
    inside = λ h. subst (λ (t : Tower). IsInside c.args.r t) (sym w.tower-is) (c.loop-z.invariant.inside h);
  }
]
