use Rattle.std.proofs.Common.{rules}
use Rattle.step_groups.specs.Steps.{acts_of_step, start_of_step}
use Rattle.step_groups.proofs.BlockedWays.{halt}
use Rattle.step_groups.proofs.one_pass.hull_of_halt.Goals as goal

pub returns-clause-value : goal.returns-clause-value
returns-clause-value c = rw (halt (start_of_step c.args.step.now) (acts_of_step c.args.step.now) c.args.step.now.number c.args.bot) (search rules)
