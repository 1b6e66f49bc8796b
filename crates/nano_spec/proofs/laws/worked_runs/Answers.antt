use Rattle.nano_spec.proofs.RuleRuns.{order_of_rules, meeting_groups}
use Rattle.nano_spec.proofs.Runs.{accepted_runs, light_runs, refused_runs}
use Rattle.nano_spec.proofs.Steps.{eight_bots_void_a_block, flips_pay_by_their_start}
use Rattle.nano_spec.proofs.laws.worked_runs.Goals as goal

pub returns-clause-accepted : goal.returns-clause-accepted
returns-clause-accepted c = accepted_runs

pub returns-clause-refused : goal.returns-clause-refused
returns-clause-refused c = refused_runs

pub returns-clause-step : goal.returns-clause-step
returns-clause-step c = eight_bots_void_a_block

pub returns-clause-light : goal.returns-clause-light
returns-clause-light c = light_runs

pub returns-clause-order_of_rules : goal.returns-clause-order_of_rules
returns-clause-order_of_rules c = order_of_rules

pub returns-clause-meeting_groups : goal.returns-clause-meeting_groups
returns-clause-meeting_groups c = meeting_groups

pub returns-clause-flips : goal.returns-clause-flips
returns-clause-flips c = flips_pay_by_their_start
