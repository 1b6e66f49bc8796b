use Rattle.nano_spec.specs.Reading.{lines}
use Rattle.debug_script.proofs.Unique.{one_reading}
use Rattle.debug_script.proofs.laws.one_script.Goals as goal

pub returns : goal.returns
returns c = λ r bytes a b h k. one_reading r 1 (lines bytes) a b h k
