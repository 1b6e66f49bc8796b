use Rattle.std.proofs.Common.{arith}
use Rattle.vox_planes.proofs.TakenBits.{part_left, part_was}
use Rattle.vox_planes.proofs.planes.places.take_part.Goals as goal

pub returns-clause-was : goal.returns-clause-was
returns-clause-was c = part_was c.args.words.now c.args.index c.args.count c.args.bits c.bits_at-present.result c.bits_at-present.ensures.bits

pub returns-clause-left : goal.returns-clause-left
returns-clause-left c =
    part_left c.args.words.now c.put_bits.new.words c.args.index c.args.count c.args.bits c.bits_at-present.result
    (record { here = c.put_bits.ensures.here; others = c.put_bits.ensures.others }) c.bits_at-present.ensures.bits (omega (arith, c.requires.word)) (let bits = c.ranges.bits in bits.fits)
