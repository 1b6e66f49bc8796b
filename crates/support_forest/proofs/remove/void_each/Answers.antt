use Rattle.support_forest.proofs.remove.void_each.Goals as goal

pub loop-left-preserved : goal.loop-left-preserved
loop-left-preserved g c = c.in_ok-left.ensures.taken c.args.cells.now c.args.steps.now c.requires.can c.loop-left.invariant
