use Rattle.vox_geom.proofs.Firsts.{before, rises}
use Rattle.vox_geom.proofs.laws.places_rise.Goals as goal

pub returns-clause-rise : goal.returns-clause-rise
returns-clause-rise c = λ r a b h k. (rises r a b h k, before r a b h k)
