use Rattle.std.proofs.Common.{subst, sym}
use Rattle.vox_geom.specs.declared.coordinate.Coord.{Coord}
use Rattle.support_forest.specs.Access.{LieInBrick}
use Rattle.support_forest.specs.Grid.{side, word_at}
use Rattle.support_forest.specs.Segments.{SidesAreFree}
use Rattle.support_forest.proofs.Segments.{part_free, whole_row_lies}
use Rattle.support_forest.proofs.segment.sides_of_all_are_free.Goals as goal

pub sides_are_free-requires-clause-brick : goal.sides_are_free-requires-clause-brick
sides_are_free-requires-clause-brick g c =
    subst (λ (p : Coord). LieInBrick c.args.cells.now p c.args.own) (sym (c.start_of_row.ensures.first (side c.args.cells.now.resolution)))
    (whole_row_lies c.args.cells.now c.args.own _ (record { within = c.requires.row.within; slot = c.requires.own; space = c.requires.space }))

pub returns-clause-free : goal.returns-clause-free
returns-clause-free g c t =
    part_free (word_at c.args.cells.now) _ c.args.count c.requires.row.row
    (subst (λ (p : Coord). SidesAreFree (word_at c.args.cells.now) p 8) (c.start_of_row.ensures.first (side c.args.cells.now.resolution)) (c.sides_are_free.ensures.free t))
