use Rattle.std.proofs.Common.{◌%◌, ◌∙◌, ap, sym, arith, get_or}
use Rattle.support_forest.specs.Grid.{side}
use Rattle.support_forest.specs.Indices.{voxel_in}
use Rattle.support_forest.proofs.Store.{brick_inside}
use Rattle.support_forest.proofs.Voxels.{slot_offset_at}
use Rattle.support_forest.proofs.Writes.{reads_offset}
use Rattle.support_forest.proofs.beside.word_here.Goals as goal

pub word-requires : goal.word-requires
word-requires g c = let start = c.requires.at in let full = c.requires.chunk.full in omega arith

pub returns-clause-value : goal.returns-clause-value
returns-clause-value g c =
    let read = c.word.ensures.value ∙ (ap (λ k. get_or c.args.chunk.now k 0) c.requires.at ∙ c.requires.chunk.each (c.args.index % 512) (omega arith)) in
    sym (reads_offset c.args.cells.now (voxel_in c.args.cells.now c.args.index) c.args.slot (c.args.index % 512) c.word.result c.recall.ensures.store
    (record { within = brick_inside _ _ c.requires.within; in_slot = c.requires.slot; at_offset = slot_offset_at (side c.args.cells.now.resolution) c.args.index }) read)
