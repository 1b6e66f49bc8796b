use Rattle.std.proofs.Common.{◌≡◌, List, [], ap, arith, length, subst, sym}
use Rattle.vox_geom.specs.declared.coordinate.Coord.{Coord}
use Rattle.support_forest.specs.Waiting.{CanAdd, HaveAdded}
use Rattle.support_forest.proofs.Raising.{can_add_rest, matrix_is, touches_are}
use Rattle.support_forest.proofs.columns.fill_cells.Goals as goal

empty : (xs : List Coord) → xs ≡ [] → length xs ≡ 0
empty xs e = ap length e

pub add_cells-requires : goal.add_cells-requires
add_cells-requires g c = subst (λ (xs : List Coord). CanAdd c.raise_all.new.cells xs) (sym c.as_slice.ensures.value) (can_add_rest _ _ _ _ c.in_ok-raise_all.ensures.raised)

pub returns-clause-matrix : goal.returns-clause-matrix
returns-clause-matrix g c =
    matrix_is c.args.planes.now c.raise_all.new.cells c.add_cells.new.cells c.raise_all.new.rest.items c.raise_all.new.steps c.add_cells.new.steps
    c.recall.ensures.whole c.in_ok-raise_all.ensures.raised
    (subst (λ (xs : List Coord). HaveAdded c.raise_all.new.cells c.add_cells.new.cells xs 20 c.raise_all.new.steps c.add_cells.new.steps)
    c.as_slice.ensures.value c.in_ok-add_cells.ensures)

pub returns-clause-touches : goal.returns-clause-touches
returns-clause-touches g c =
    touches_are c.args.planes.now c.raise_all.new.cells c.add_cells.new.cells c.raise_all.new.rest.items c.raise_all.new.steps c.add_cells.new.steps
    c.recall.ensures.whole c.in_ok-raise_all.ensures.raised
    (subst (λ (xs : List Coord). HaveAdded c.raise_all.new.cells c.add_cells.new.cells xs 20 c.raise_all.new.steps c.add_cells.new.steps)
    c.as_slice.ensures.value c.in_ok-add_cells.ensures)
    c.args.steps.now (omega (arith, c.in_ok-raise_all.ensures.touches, empty _ c.take_rest-rest.ensures))
