use Rattle.std.proofs.Common.{ℕ, ◌+◌, ◌∙◌, ap, sym}
use Rattle.support_forest.proofs.Searching.{part_first, part_void}
use Rattle.support_forest.proofs.Segments.{row_in_chunk}
use Rattle.support_forest.proofs.floating.first_in_part.Goals as goal

pub first_one-requires-clause-within : goal.first_one-requires-clause-within
first_one-requires-clause-within g c = row_in_chunk c.args.cells.now c.chunk.result.now c.in-Some.slot c.from.result _ c.args.count c.args.at c.chunk.ensures (c.from.ensures ∙ c.offset_in_slot.ensures.value) c.requires.row (ap (λ (n : ℕ). n + c.from.result) c.start_in_chunk.ensures)

pub returns-in-Some-clause-first : goal.returns-in-Some-clause-first
returns-in-Some-clause-first g c = part_first c.args.cells.now c.chunk.result.now c.in-Some.slot c.from.result _ c.args.count c.args.at c.first_one.result c.slot.ensures.store c.requires (sym c.slot.ensures.value ∙ c.in-Some.is) c.chunk.ensures (c.from.ensures ∙ c.offset_in_slot.ensures.value) (ap (λ (n : ℕ). n + c.from.result) c.start_in_chunk.ensures) c.first_one.ensures.first

pub returns-in-None-clause-first : goal.returns-in-None-clause-first
returns-in-None-clause-first g c = part_void c.args.cells.now c.args.at c.args.count c.requires (sym c.in-None.is ∙ c.slot.ensures.value)
