use Rattle.std.proofs.Common.{refl}
use Rattle.vox_planes.proofs.Chunks.{chunk_is}
use Rattle.vox_planes.proofs.planes.places.bits_at.Goals as goal

pub returns-clause-bits : goal.returns-clause-bits
returns-clause-bits c = λ k l. chunk_is c.args.words.now c.args.index c.args.count k _ _ c.mask.result l c.requires.word refl c.mask.ensures refl
