use Rattle.step_machine.proofs.Weighing.{levels_of_all, step_work}
use Rattle.trace_judge.proofs.Works.{run_work}
use Rattle.trace_judge.proofs.laws.every_run_has_work.Goals as goal

pub returns-clause-levels : goal.returns-clause-levels
returns-clause-levels c = levels_of_all

pub returns-clause-step : goal.returns-clause-step
returns-clause-step c = step_work

pub returns-clause-run : goal.returns-clause-run
returns-clause-run c = run_work
