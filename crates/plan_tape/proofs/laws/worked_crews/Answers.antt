use Rattle.plan_tape.proofs.Examples as examples
use Rattle.plan_tape.proofs.laws.worked_crews.Goals as goal

pub returns : goal.returns
returns c = examples.worked_crews
