use Rattle.std.proofs.Common.{◌%◌, ◌∙◌, arith, sym}
use Rattle.support_forest.specs.VoidingOne.{HangsNot}
use Rattle.support_forest.proofs.Segments.{standing_row, standing_void}
use Rattle.support_forest.proofs.segment.row_is_free.Goals as goal

pub words_hang_not-requires-clause-within : goal.words_hang_not-requires-clause-within
words_hang_not-requires-clause-within g c = let full = c.chunk.ensures.full in let at = c.offset_in_chunk-from.ensures in let row = c.requires.row in omega arith

pub returns-in-Some-clause-none : goal.returns-in-Some-clause-none
returns-in-Some-clause-none g c t = λ q s. standing_row c.args.cells.now c.chunk.result.now c.in-Some.slot _ (c.args.index % 512) c.offset_in_chunk-from.result c.args.count q (λ v. HangsNot v c.args.toward)
    c.slot_beyond.ensures.store s (let row = c.requires.row in omega arith) (sym c.in-Some.is ∙ c.slot_beyond.ensures.value) c.chunk.ensures c.offset_in_chunk-from.ensures (c.words_hang_not.ensures.none t)

pub returns-in-None-clause-none : goal.returns-in-None-clause-none
returns-in-None-clause-none g c t = λ q s. standing_void c.args.cells.now _ (c.args.index % 512) c.args.count c.args.toward q c.slot_beyond.ensures.store s (let row = c.requires.row in omega arith) (sym c.in-None.is ∙ c.slot_beyond.ensures.value)
