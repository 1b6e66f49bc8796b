use Rattle.std.proofs.Common.{arith, rules, sym, subst}
use Rattle.nano_spec.specs.Legal.{IsLegal}
use Rattle.nano_spec.specs.Matrix.{Matrix}
use Rattle.model_forge.proofs.Forged.{begun, done}
use Rattle.model_forge.proofs.walls.forge.Goals as goal

pub loop-x-init : goal.loop-x-init
loop-x-init c =
    let empty = c.in_ok-planes.ensures {u = tt} in
    let heights = c.in_ok-heights.ensures {u = tt} in
    record {
      forged = begun c.args.number c.of-tower.result c.args.r c.in_ok-planes.planes empty.value;
      count = search rules;
      resolution = empty.resolution;
      whole = empty.whole;
    }

pub returns-clause-value : goal.returns-clause-value
returns-clause-value c =
    done c.args.number c.of-tower.result c.args.r c.loop-x.x c.loop-x.planes c.loop-x.invariant.resolution c.loop-x.invariant.whole c.loop-x.invariant.forged (omega (arith, c.loop-x-test.false, c.requires.some)) c.of-tower.ensures.height c.of-tower.ensures.z

pub returns-clause-legal : goal.returns-clause-legal
returns-clause-legal c =
    let is = done c.args.number c.of-tower.result c.args.r c.loop-x.x c.loop-x.planes c.loop-x.invariant.resolution c.loop-x.invariant.whole c.loop-x.invariant.forged (omega (arith, c.loop-x-test.false, c.requires.some)) c.of-tower.ensures.height c.of-tower.ensures.z in
    subst (λ (m : Matrix). IsLegal m) (sym is) (c.forged_is_legal.ensures c.args.number c.args.r)
