use Rattle.support_forest.specs.Grid.{word_at}
use Rattle.support_forest.specs.Indices.{voxel_in}
use Rattle.support_forest.proofs.VoidingOne.{none_hangs}
use Rattle.std.proofs.Common.{arith, refl}
use Rattle.support_forest.proofs.void_one.is_parent_in.Goals as goal

pub chunk-chunk-requires : goal.chunk-chunk-requires
chunk-chunk-requires g c = c.recall.ensures.store.live _ c.args.slot c.requires.slot

pub returns : goal.returns
returns g c = record {
  parent = λ e. none_hangs (word_at c.args.cells.now) (voxel_in c.args.cells.now c.args.index)
      (record { left = c.word_beside-left.result; right = c.word_beside-right.result; under = c.word_beside-under.result; over = c.word_beside-over.result; near = c.word_beside-near.result; far = c.word_beside-far.result })
      (record { left = c.word_beside-left.ensures.word; right = c.word_beside-right.ensures.word; under = c.word_beside-under.ensures.word; over = c.word_beside-over.ensures.word; near = c.word_beside-near.ensures.word; far = c.word_beside-far.ensures.word })
      (record { over = c.if-hangs.ensures refl; left = c.if-hangs-2.ensures refl; right = c.if-hangs-3.ensures refl; under = c.if-hangs-4.ensures refl; near = c.if-hangs-5.ensures refl; far = c.hangs-6.ensures e });
  touches = omega (arith, c.word_beside-over.ensures.touch, c.word_beside-left.ensures.touch, c.word_beside-right.ensures.touch, c.word_beside-under.ensures.touch, c.word_beside-near.ensures.touch, c.word_beside-far.ensures.touch);
}
