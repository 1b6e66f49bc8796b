use Rattle.std.proofs.Common.{arith}
use Rattle.support_forest.proofs.Raising.{next_wall}
use Rattle.support_forest.proofs.columns.raise_wall.Goals as goal

pub returns-clause-raised : goal.returns-clause-raised
returns-clause-raised g c =
    let most = c.recall.ensures.whole.most in
    next_wall _ _ _ _ _ most c.loop-z.invariant.whole (omega (arith, c.loop-z-test.false, c.resolution-r.ensures.value)) c.loop-z.invariant.most c.loop-z.invariant.raised
