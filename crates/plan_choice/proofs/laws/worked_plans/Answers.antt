use Rattle.plan_choice.proofs.Examples as examples
use Rattle.plan_choice.proofs.laws.worked_plans.Goals as goal

pub returns-clause-plans : goal.returns-clause-plans
returns-clause-plans c = examples.worked_plans

pub returns-clause-planners : goal.returns-clause-planners
returns-clause-planners c = examples.worked_planners

pub returns-clause-costs : goal.returns-clause-costs
returns-clause-costs c = examples.worked_costs

pub returns-clause-crews : goal.returns-clause-crews
returns-clause-crews c = examples.worked_crews
