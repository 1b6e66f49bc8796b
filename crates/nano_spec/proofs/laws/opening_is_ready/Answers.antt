use Rattle.nano_spec.proofs.Opening.{ready_opening}
use Rattle.nano_spec.proofs.laws.opening_is_ready.Goals as goal

pub returns : goal.returns
returns c = ready_opening
