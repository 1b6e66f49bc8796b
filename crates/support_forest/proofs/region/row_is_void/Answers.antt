use Rattle.std.proofs.Common.{◌≡◌, ◌%◌, ◌∙◌, ap, arith, sym}
use Rattle.support_forest.specs.Grid.{offset_in_slot, side}
use Rattle.support_forest.specs.Indices.{voxel_in}
use Rattle.support_forest.specs.Segments.{whole_row_start}
use Rattle.support_forest.proofs.Segments.{whole_row_in_slot}
use Rattle.support_forest.proofs.Voxels.{slot_offset_at}
use Rattle.support_forest.proofs.region.row_is_void.Goals as goal

pub chunk-chunk-requires : goal.chunk-chunk-requires
chunk-chunk-requires g c = c.recall.ensures.store.live _ c.args.own c.requires.own

pub words_are_void-requires-clause-within : goal.words_are_void-requires-clause-within
words_are_void-requires-clause-within g c = let full = c.chunk-chunk.ensures.full in let at = c.offset_in_chunk-from.ensures in let whole = c.start_of_row.ensures.whole in omega arith

pub returns-clause-void : goal.returns-clause-void
returns-clause-void g c t =
    let index : c.start_of_row.result % 512 ≡ offset_in_slot (whole_row_start (voxel_in c.args.cells.now c.args.index)) = sym (slot_offset_at (side c.args.cells.now.resolution) c.start_of_row.result) ∙ ap offset_in_slot (c.start_of_row.ensures.first (side c.args.cells.now.resolution)) in
    whole_row_in_slot c.args.cells.now c.chunk-chunk.result.now c.args.own (c.start_of_row.result % 512) c.offset_in_chunk-from.result (voxel_in c.args.cells.now c.args.index) (λ v. v ≡ 0)
    c.recall.ensures.store c.requires.within c.requires.own c.chunk-chunk.ensures index c.offset_in_chunk-from.ensures (c.words_are_void.ensures.void t)
