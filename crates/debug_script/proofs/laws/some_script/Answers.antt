use Rattle.debug_script.proofs.SomeScript.{script_says}
use Rattle.debug_script.proofs.laws.some_script.Goals as goal

pub returns : goal.returns
returns c = λ r bytes. script_says r bytes
