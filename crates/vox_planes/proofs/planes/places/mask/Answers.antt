use Rattle.vox_planes.proofs.Chunks.{mask_is}
use Rattle.vox_planes.proofs.planes.places.mask.Goals as goal

pub returns : goal.returns
returns c = mask_is c.args.first c.args.count c.requires.some c.requires.within
