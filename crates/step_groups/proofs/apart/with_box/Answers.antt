use Rattle.step_groups.proofs.Lone.{hull_more}
use Rattle.step_groups.proofs.apart.with_box.Goals as goal

pub returns : goal.returns
returns c = hull_more c.args.others.now c.args.hull.now c.args.all.now c.around.result c.requires c.around.ensures.first c.around.ensures.second
