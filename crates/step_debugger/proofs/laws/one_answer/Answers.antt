use Rattle.step_debugger.proofs.Functional.{answered_once}
use Rattle.step_debugger.proofs.laws.one_answer.Goals as goal

pub returns : goal.returns
returns c = answered_once
