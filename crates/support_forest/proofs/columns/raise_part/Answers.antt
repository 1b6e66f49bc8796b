use Rattle.std.proofs.Common.{ℕ, ◌∙◌, ap, arith, subst}
use Rattle.vox_geom.specs.declared.coordinate.Coord.{Coord}
use Rattle.support_forest.specs.Grid.{side}
use Rattle.support_forest.specs.Indices.{voxel_of}
use Rattle.support_forest.specs.Segments.{AreWritten}
use Rattle.support_forest.proofs.Raising.{blank, raised_same, whole_row, zero_bit}
use Rattle.support_forest.proofs.columns.raise_part.Goals as goal

pub returns-then-bits-eq0-clause-raised : goal.returns-then-bits-eq0-clause-raised
returns-then-bits-eq0-clause-raised g c = blank _ _ _ _ _ _ _ c.requires.can
    (λ k l. zero_bit _ k c.if-bits-eq0.true (omega (arith, c.requires.brick)))

pub returns-then-count-eq-BRICK_SIDE-clause-raised : goal.returns-then-count-eq-BRICK_SIDE-clause-raised
returns-then-count-eq-BRICK_SIDE-clause-raised g c =
    whole_row _ _ _ _ _ _ _ c.requires.can c.take_slot_at.new.self c.write_row.new.self c.word_in_column.result c.if-count-eq-BRICK_SIDE.true c.if-supported-eq255.true
    (raised_same _ _ _ _ _ c.take_slot_at.ensures.resolution c.in_ok-own.ensures.same c.requires.can.raised)
    (c.take_slot_at.ensures.resolution ∙ c.requires.can.raised.resolution)
    (subst (λ (p : Coord). AreWritten c.take_slot_at.new.self c.write_row.new.self p c.word_in_column.result)
    (ap (λ (n : ℕ). voxel_of (side n) c.index_of-index.result) c.take_slot_at.ensures.resolution ∙ c.index_of-index.ensures.voxel) c.write_row.ensures.written)
    c.word_in_column.ensures
