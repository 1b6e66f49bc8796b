use Rattle.energy_sum.proofs.Bounds.{costs_least, costs_most}
use Rattle.energy_sum.proofs.laws.a_group_costs_little.Goals as goal

pub returns-clause-rises : goal.returns-clause-rises
returns-clause-rises c = costs_most

pub returns-clause-falls : goal.returns-clause-falls
returns-clause-falls c = costs_least
