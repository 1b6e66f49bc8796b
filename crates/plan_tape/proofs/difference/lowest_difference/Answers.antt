use Rattle.std.proofs.Common.{arith}
use Rattle.plan_tape.proofs.Lowest.{all_same, layers_more, lowest_at, same_layer}
use Rattle.plan_tape.proofs.difference.lowest_difference.Goals as goal

pub loop-y-preserved : goal.loop-y-preserved
loop-y-preserved c = layers_more c.args.source.now c.args.target.now c.loop-y.y c.loop-y.invariant (same_layer c.args.source.now c.args.target.now c.loop-y.y c.requires.same c.in-None.ensures)

pub returns-in-Some-clause-found : goal.returns-in-Some-clause-found
returns-in-Some-clause-found c = lowest_at c.args.source.now c.args.target.now c.loop-y.y _ (omega arith) c.loop-y.invariant c.in-Some.ensures

pub returns-clause-none : goal.returns-clause-none
returns-clause-none c = all_same c.args.source.now c.args.target.now c.loop-y.y c.resolution-y-end.ensures.whole c.recall.ensures.whole c.requires.same (omega arith) c.loop-y.invariant
