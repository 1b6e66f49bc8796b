use Rattle.step_debugger.proofs.Ordering.{makes_the_step, one_end}
use Rattle.step_debugger.proofs.laws.every_order_makes_the_step.Goals as goal

pub returns-clause-step : goal.returns-clause-step
returns-clause-step c = makes_the_step

pub returns-clause-orders : goal.returns-clause-orders
returns-clause-orders c = one_end
