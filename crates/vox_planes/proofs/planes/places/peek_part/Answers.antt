use Rattle.vox_planes.proofs.TakenBits.{part_was}
use Rattle.vox_planes.proofs.planes.places.peek_part.Goals as goal

pub returns-clause-full : goal.returns-clause-full
returns-clause-full c = part_was c.args.words.now c.args.index c.args.count c.args.bits c.bits_at.result c.bits_at.ensures.bits
