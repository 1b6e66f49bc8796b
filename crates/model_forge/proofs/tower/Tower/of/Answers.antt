use Rattle.std.proofs.Common.{◌≡◌, ◌-◌, arith, ap, sym, ◌∙◌}
use Rattle.model_forge.specs.Tower.{highest}
use Rattle.model_forge.proofs.Towers.{height_is, line_is, wall_more, walls_from}
use Rattle.model_forge.proofs.tower.Tower.of.Goals as goal

pub loop-x-preserved : goal.loop-x-preserved
loop-x-preserved c = record {
  value = wall_more c.args.number c.args.r c.loop-x.x c.loop-x.tower c.or_higher-tower.result _ c.loop-x-test.true c.loop-x.invariant.value c.or_higher-tower.ensures.value;
  inside = c.or_higher-tower.ensures.inside c.loop-x.invariant.inside;
}

pub returns-clause-height : goal.returns-clause-height
returns-clause-height c =
    let over : c.args.r - 1 - c.loop-x.x ≡ 0 = omega arith in
    height_is c.args.number c.args.r c.loop-x.tower (ap (λ n. highest c.args.number c.args.r c.loop-x.tower (walls_from c.args.r c.loop-x.x n)) (sym over) ∙ c.loop-x.invariant.value)

pub returns-clause-z : goal.returns-clause-z
returns-clause-z c =
    let over : c.args.r - 1 - c.loop-x.x ≡ 0 = omega arith in
    line_is c.args.number c.args.r c.loop-x.tower (ap (λ n. highest c.args.number c.args.r c.loop-x.tower (walls_from c.args.r c.loop-x.x n)) (sym over) ∙ c.loop-x.invariant.value)
