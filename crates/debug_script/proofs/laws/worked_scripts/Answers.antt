use Rattle.debug_script.proofs.Examples.{worked_prints, worked_scripts}
use Rattle.debug_script.proofs.laws.worked_scripts.Goals as goal

pub returns-clause-scripts : goal.returns-clause-scripts
returns-clause-scripts c = worked_scripts

pub returns-clause-prints : goal.returns-clause-prints
returns-clause-prints c = worked_prints
