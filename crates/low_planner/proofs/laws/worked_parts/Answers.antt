use Rattle.low_planner.proofs.Examples as examples
use Rattle.low_planner.proofs.laws.worked_parts.Goals as goal

pub returns : goal.returns
returns c = examples.worked_parts
