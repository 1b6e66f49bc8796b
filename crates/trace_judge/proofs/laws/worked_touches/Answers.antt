use Rattle.trace_judge.proofs.Examples as examples
use Rattle.trace_judge.proofs.laws.worked_touches.Goals as goal

pub returns : goal.returns
returns c = examples.worked_touches
