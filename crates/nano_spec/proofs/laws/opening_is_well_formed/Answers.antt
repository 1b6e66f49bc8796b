use Rattle.nano_spec.proofs.Opening.{well_formed_opening}
use Rattle.nano_spec.proofs.laws.opening_is_well_formed.Goals as goal

pub returns : goal.returns
returns c = well_formed_opening
