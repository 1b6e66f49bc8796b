use Rattle.std.proofs.Common.{◌%◌, ◌/◌, ap, get_or}
use Rattle.vox_planes.proofs.Chunks.{mixed, put_bits}
use Rattle.vox_planes.proofs.planes.places.put_bits.Goals as goal

pub returns-clause-here : goal.returns-clause-here
returns-clause-here c =
    let put = put_bits c.args.words.now c.args.index c.args.count c.args.bits _ c.requires.within c.requires.word (ap (mixed (get_or c.args.words.now (c.args.index / 64) 0) c.args.bits (c.args.index % 64)) c.mask-mask.ensures) in
    put.here

pub returns-clause-others : goal.returns-clause-others
returns-clause-others c =
    let put = put_bits c.args.words.now c.args.index c.args.count c.args.bits _ c.requires.within c.requires.word (ap (mixed (get_or c.args.words.now (c.args.index / 64) 0) c.args.bits (c.args.index % 64)) c.mask-mask.ensures) in
    put.others
