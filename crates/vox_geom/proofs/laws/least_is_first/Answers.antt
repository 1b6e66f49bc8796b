use Rattle.vox_geom.proofs.Firsts.{first_is, first_of}
use Rattle.vox_geom.proofs.laws.least_is_first.Goals as goal

pub returns-clause-found : goal.returns-clause-found
returns-clause-found c = first_is

pub returns-clause-is_least : goal.returns-clause-is_least
returns-clause-is_least c = first_of
