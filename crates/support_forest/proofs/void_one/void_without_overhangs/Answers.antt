use Rattle.std.proofs.Common.{arith}
use Rattle.support_forest.specs.Grid.{word_at}
use Rattle.support_forest.specs.Indices.{voxel_in}
use Rattle.support_forest.proofs.WithoutOverhangs.{no_parent_without_overhangs}
use Rattle.support_forest.proofs.VoidingOne.{taken}
use Rattle.support_forest.proofs.void_one.void_without_overhangs.Goals as goal

pub chunk-chunk-requires : goal.chunk-chunk-requires
chunk-chunk-requires g c = c.recall.ensures.store.live _ c.args.slot c.requires.slot

pub write_without_overhang-requires-clause-stands : goal.write_without_overhang-requires-clause-stands
write_without_overhang-requires-clause-stands g c = c.requires.without_overhangs (voxel_in c.args.cells.now c.args.index)

pub returns : goal.returns
returns g c = taken _ _ (voxel_in c.args.cells.now c.args.index) c.args.steps.now c.word_beside-over.new.steps c.word_beside-over.new.steps c.write_without_overhang.new.steps c.requires.can.exact
    (no_parent_without_overhangs (word_at c.args.cells.now) (voxel_in c.args.cells.now c.args.index) c.word_beside-over.result c.requires.without_overhangs c.word_beside-over.ensures.word c.if-over-ne0.false)
    c.write_without_overhang.ensures.written c.write_without_overhang.ensures.resolution (omega (arith, c.word_beside-over.ensures.touch)) (omega arith) c.write_without_overhang.ensures.touch
