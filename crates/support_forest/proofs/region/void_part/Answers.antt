use Rattle.std.proofs.Common.{◌≡◌, ℕ, ◌<◌, ◌∙◌, arith, subst, sym}
use Rattle.vox_geom.specs.declared.coordinate.Coord.{Coord}
use Rattle.vox_geom.specs.Space.{IsInSpace}
use Rattle.support_forest.specs.Grid.{slot_of, word_at}
use Rattle.support_forest.specs.Segments.{AreCleared, further, whole_row_start}
use Rattle.support_forest.proofs.Voiding.{part_void, row_cleared_is, row_none, voided_already}
use Rattle.support_forest.proofs.region.void_part.Goals as goal

pub slot_at-requires : goal.slot_at-requires
slot_at-requires g c = subst (λ (p : Coord). IsInSpace c.args.cells.now.resolution p) (sym c.requires.index) c.requires.row.within

pub returns-in_default-clause-voided : goal.returns-in_default-clause-voided
returns-in_default-clause-voided g c =
    voided_already c.args.cells.now _ c.args.count c.args.rest.now.items c.requires.exact
    (λ d h. row_none c.args.cells.now c.args.first d c.args.count c.requires.row (sym c.in_default.is ∙ subst (λ (p : Coord). c.slot_at.result ≡ slot_of c.args.cells.now p) c.requires.index c.slot_at.ensures.value) h)

pub returns-then-row_is_void-clause-voided : goal.returns-then-row_is_void-clause-voided
returns-then-row_is_void-clause-voided g c =
    let void : (k : ℕ) → k < 8 → word_at c.args.cells.now (further (whole_row_start c.args.first) k) ≡ 0 =
    subst (λ (p : Coord). (k : ℕ) → k < 8 → word_at c.args.cells.now (further (whole_row_start p) k) ≡ 0) c.requires.index (c.row_is_void.ensures.void c.if-row_is_void.true) in
    voided_already c.args.cells.now _ c.args.count c.args.rest.now.items c.requires.exact (λ d h. part_void c.args.cells.now c.args.first d c.args.count c.requires.row.row void h)

pub returns-then-part_is_free-clause-voided : goal.returns-then-part_is_free-clause-voided
returns-then-part_is_free-clause-voided g c =
    row_cleared_is c.args.cells.now c.clear_row.new.cells c.args.first c.args.count c.args.rest.now.items c.part_is_free.new.steps c.clear_row.new.steps
    (subst (λ (p : Coord). AreCleared c.args.cells.now c.clear_row.new.cells p 0 c.args.count c.part_is_free.new.steps c.clear_row.new.steps) c.requires.index c.clear_row.ensures)

pub returns-then-part_is_free-clause-touches : goal.returns-then-part_is_free-clause-touches
returns-then-part_is_free-clause-touches g c = omega (arith, c.requires.some, c.row_is_void.ensures.touches, c.part_is_free.ensures.touches, c.clear_row.ensures.cost)
