use Rattle.vox_planes.proofs.Searches.{bits_marked}
use Rattle.vox_planes.proofs.planes.regions.bits_from.Goals as goal

pub returns : goal.returns
returns c = bits_marked c.args.words.now c.args.at c.mark.result c.args.value c.mark.ensures
