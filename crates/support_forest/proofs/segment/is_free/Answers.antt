use Rattle.support_forest.specs.Grid.{side, word_at}
use Rattle.support_forest.proofs.Segments.{row_free}
use Rattle.support_forest.proofs.Voxels.{part_there}
use Rattle.support_forest.proofs.segment.is_free.Goals as goal

pub sides_are_free-requires-clause-row : goal.sides_are_free-requires-clause-row
sides_are_free-requires-clause-row g c = part_there (side c.args.cells.now.resolution) c.args.index c.args.count c.requires.row.row

pub returns-clause-free : goal.returns-clause-free
returns-clause-free g c t = row_free (word_at c.args.cells.now) _ c.args.count (c.sides_are_free.ensures.free c.if-not-sides_are_free.false) (c.ends_are_free.ensures.free t)
