use Rattle.std.proofs.Common.{◌%◌, arith, sym}
use Rattle.support_forest.specs.Grid.{side, word_at}
use Rattle.support_forest.specs.Indices.{voxel_in}
use Rattle.support_forest.specs.VoidingOne.{HangsNot}
use Rattle.support_forest.proofs.Store.{brick_inside}
use Rattle.support_forest.proofs.WithoutOverhangs.{sides_without_overhangs}
use Rattle.support_forest.proofs.Segments.{row_in_slot}
use Rattle.support_forest.proofs.Voxels.{slot_offset_at, part_of_row}
use Rattle.support_forest.proofs.segment.sides_are_free.Goals as goal

pub chunk-chunk-requires : goal.chunk-chunk-requires
chunk-chunk-requires g c = c.recall.ensures.store.live _ c.args.own c.requires.brick.slot

pub words_hang_not-requires-clause-within : goal.words_hang_not-requires-clause-within
words_hang_not-requires-clause-within g c = let full = c.chunk-chunk.ensures.full in let at = c.offset_in_chunk-at.ensures in let row = c.requires.row in omega arith

pub returns-then-has_no_overhangs-clause-free : goal.returns-then-has_no_overhangs-clause-free
returns-then-has_no_overhangs-clause-free g c t =
    let without_overhangs = c.has_no_overhangs.ensures c.if-has_no_overhangs.true in
    sides_without_overhangs (word_at c.args.cells.now) (voxel_in c.args.cells.now c.args.index) c.args.count without_overhangs (c.side_is_free.ensures.none c.if-not-side_is_free.false)

pub returns-clause-free : goal.returns-clause-free
returns-clause-free g c t = record {
  over = c.side_is_free.ensures.none c.if-not-side_is_free.false;
  under = c.side_is_free-2.ensures.none c.if-not-side_is_free-2.false;
  left = c.side_is_free-3.ensures.none c.if-not-side_is_free-3.false;
  right = c.side_is_free-4.ensures.none c.if-not-side_is_free-4.false;
  own = row_in_slot c.args.cells.now c.chunk-chunk.result.now c.args.own (c.args.index % 512) c.offset_in_chunk-at.result c.args.count (voxel_in c.args.cells.now c.args.index) (λ v. HangsNot v 6)
      c.recall.ensures.store (brick_inside c.args.cells.now.resolution (voxel_in c.args.cells.now c.args.index) c.requires.brick.within) (part_of_row (side c.args.cells.now.resolution) c.args.index c.args.count c.requires.row) c.requires.brick.slot c.chunk-chunk.ensures
      (sym (slot_offset_at (side c.args.cells.now.resolution) c.args.index)) c.offset_in_chunk-at.ensures (c.words_hang_not.ensures.none t);
}
