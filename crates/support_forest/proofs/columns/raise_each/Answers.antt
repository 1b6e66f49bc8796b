use Rattle.std.proofs.Common.{◌∙◌, arith}
use Rattle.vox_geom.proofs.Tests.{test_equal, test_unequal}
use Rattle.support_forest.proofs.Raising.{listed_along, length_more, raised_at, slot_along, slot_kept, void_along, written_along}
use Rattle.support_forest.proofs.columns.raise_each.Goals as goal

pub loop-k-init : goal.loop-k-init
loop-k-init g c = record { raised = raised_at _ _ _ _ _ (omega arith) c.requires.can.raised; own = c.requires.own; touches = omega arith }

pub write-requires-clause-slot : goal.write-requires-clause-slot
write-requires-clause-slot g c = slot_along c.loop-k.cells c.args.first _ _ (let brick = c.requires.brick in let more = c.loop-k-test.true in omega arith) c.loop-k.invariant.own

pub loop-k-preserved-then-supported-k-eq1 : goal.loop-k-preserved-then-supported-k-eq1
loop-k-preserved-then-supported-k-eq1 g c = record {
  raised = written_along _ _ _ _ _ _ _ c.requires.can _ _ _ c.loop-k-test.true c.loop-k.invariant.raised _ _ (test_equal _ _ c.if-supported-k-eq1.true) c.write.ensures.resolution
      c.write.ensures.written c.word_in_column-word.ensures;
  own = slot_kept c.loop-k.cells c.write.new.self c.args.first c.write.ensures.slots c.write.ensures.resolution ∙ c.loop-k.invariant.own;
  touches = omega (arith, c.loop-k.invariant.touches, c.write.ensures.touch);
}

pub loop-k-preserved : goal.loop-k-preserved
loop-k-preserved g c = record {
  raised = listed_along _ _ _ _ _ _ _ c.requires.can _ _ _ c.loop-k-test.true c.loop-k.invariant.raised _ (test_equal _ _ c.if-bits-k-ne1.false)
      (test_unequal _ _ c.if-supported-k-eq1.false) c.in_ok-push.ensures.items;
  own = c.loop-k.invariant.own;
  touches = let longer = length_more _ _ _ c.in_ok-push.ensures.items in omega (arith, c.loop-k.invariant.touches);
}

pub loop-k-preserved-then-bits-k-ne1 : goal.loop-k-preserved-then-bits-k-ne1
loop-k-preserved-then-bits-k-ne1 g c = record {
  raised = void_along _ _ _ _ _ _ _ c.requires.can _ _ _ c.loop-k-test.true c.loop-k.invariant.raised (test_unequal _ _ c.if-bits-k-ne1.true);
  own = c.loop-k.invariant.own;
  touches = omega (arith, c.loop-k.invariant.touches);
}

pub returns-clause-raised : goal.returns-clause-raised
returns-clause-raised g c = raised_at _ _ _ _ _ (let in_range = c.loop-k.auto.k-end in let at_end = c.loop-k-test.false in omega arith) c.loop-k.invariant.raised
