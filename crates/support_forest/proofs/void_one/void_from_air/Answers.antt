use Rattle.std.proofs.Common.{refl}
use Rattle.support_forest.specs.Indices.{voxel_in}
use Rattle.support_forest.proofs.VoidingOne.{taken}
use Rattle.support_forest.proofs.void_one.void_from_air.Goals as goal

pub returns : goal.returns
returns g c = taken _ _ (voxel_in c.args.cells.now c.args.index) c.args.steps.now c.is_parent.new.steps c.word_at-word.new.steps c.write_at.new.steps c.requires.can.exact (c.if-is_parent.ensures.parent refl) c.write_at.ensures.written c.write_at.ensures.resolution c.is_parent.ensures.touches c.word_at-word.ensures.touch c.write_at.ensures.touch
