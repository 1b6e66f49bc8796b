use Rattle.step_groups.proofs.Hulls.{more_around}
use Rattle.step_groups.proofs.boxes.hull.Goals as goal

pub loop-i-preserved : goal.loop-i-preserved
loop-i-preserved c = more_around c.args.boxes.now c.loop-i.i c.index-boxes-i.result c.loop-i.all c.around-all.result c.loop-i-test.true c.index-boxes-i.is c.loop-i.invariant c.around-all.ensures.first c.around-all.ensures.second
