use Rattle.nano_spec.specs.Matrix.{empty}
use Rattle.nano_spec.specs.Profile.{light_profile}
use Rattle.low_planner.proofs.Alone.{alone}
use Rattle.low_planner.proofs.plan.plan_low.Goals as goal

pub returns-clause-few : goal.returns-clause-few
returns-clause-few c = alone (empty c.args.target.now.resolution) light_profile c.in_ok-plan.plan.commands c.in_ok-plan.ensures.plain
