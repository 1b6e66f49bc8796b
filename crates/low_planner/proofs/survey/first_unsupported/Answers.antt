use Rattle.low_planner.proofs.Sweeps.{left_is_unsupported}
use Rattle.low_planner.proofs.survey.first_unsupported.Goals as goal

pub returns : goal.returns
returns c = left_is_unsupported c.args.target.now c.finish.new.sweep c.least_full.result c.in_ok-finish.ensures.sweep c.in_ok-finish.ensures.none c.in_ok-finish.ensures.all c.least_full.ensures
