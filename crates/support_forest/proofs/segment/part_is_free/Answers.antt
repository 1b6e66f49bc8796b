use Rattle.support_forest.specs.Grid.{word_at}
use Rattle.support_forest.proofs.Segments.{row_free}
use Rattle.support_forest.proofs.segment.part_is_free.Goals as goal

pub returns-then-sides_of_all_are_free-clause-free : goal.returns-then-sides_of_all_are_free-clause-free
returns-then-sides_of_all_are_free-clause-free g c t = row_free (word_at c.args.cells.now) _ c.args.count (c.sides_of_all_are_free.ensures.free c.if-sides_of_all_are_free.true) (c.ends_are_free.ensures.free t)
