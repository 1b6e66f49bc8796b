use Rattle.group_planner.proofs.Examples as examples
use Rattle.group_planner.proofs.laws.worked_rows.Goals as goal

pub returns : goal.returns
returns c = examples.worked_rows
