use Rattle.step_debugger.proofs.Walks.{worked_sessions}
use Rattle.step_debugger.proofs.laws.worked_sessions.Goals as goal

pub returns : goal.returns
returns c = worked_sessions
