use Rattle.std.proofs.Common.{arith}
use Rattle.support_forest.proofs.Raising.{blank, no_bit, part_of, raised_at}
use Rattle.support_forest.proofs.columns.raise_row.Goals as goal

pub returns-then-bits-eq0-clause-raised : goal.returns-then-bits-eq0-clause-raised
returns-then-bits-eq0-clause-raised g c = blank _ _ _ _ _ _ _ c.requires.can (λ k l. no_bit _ k c.if-bits-eq0.true)

pub loop-k-init : goal.loop-k-init
loop-k-init g c = record { within = omega arith; whole = λ l. omega (arith, c.requires.whole); raised = raised_at _ _ _ _ _ (omega arith) c.requires.can.raised; touches = omega arith }

pub raise_part-requires-clause-can : goal.raise_part-requires-clause-can
raise_part-requires-clause-can g c =
    let few = c.min-part.ensures in
    part_of _ _ _ _ _ _ _ c.requires.can _ _ _ _ (omega arith) (omega arith) c.loop-k.invariant.raised

pub loop-k-preserved : goal.loop-k-preserved
loop-k-preserved g c =
    let few = c.min-part.ensures in
    let block = c.requires.can.block in
    record {
      within = omega arith;
      whole = λ l. let whole = c.loop-k.invariant.whole (omega arith) in omega arith;
      raised = raised_at _ _ _ _ _ (omega arith) c.in_ok-raise_part.ensures.raised;
      touches = omega (arith, c.loop-k.invariant.touches, c.in_ok-raise_part.ensures.touches);
    }

pub returns-clause-raised : goal.returns-clause-raised
returns-clause-raised g c = raised_at _ _ _ _ _ (omega (arith, c.loop-k.invariant.within, c.loop-k-test.false)) c.loop-k.invariant.raised
