use Rattle.std.proofs.Common.{List, subst, sym}
use Rattle.vox_geom.specs.declared.coordinate.Coord.{Coord}
use Rattle.vox_geom.specs.Region.{size, span}
use Rattle.support_forest.specs.Losing.{CanRemove, HaveRemoved}
use Rattle.support_forest.specs.Regions.{IsInRegion}
use Rattle.support_forest.proofs.Voiding.{can_remove_rest, voided_and_removed}
use Rattle.support_forest.proofs.remove.remove_region.Goals as goal

pub remove_and_settle-requires : goal.remove_and_settle-requires
remove_and_settle-requires g c =
    subst (λ (xs : List Coord). CanRemove c.void_region.new.cells xs) (sym c.as_slice.ensures.value)
    (can_remove_rest c.args.cells.now c.void_region.new.cells (IsInRegion c.args.b.now) (size (span c.args.b.now)) c.take_rest-rest.result.items c.void_region.new.rest.items c.take_rest-rest.ensures c.in_ok-void_region.ensures.voided)

pub returns : goal.returns
returns g c =
    voided_and_removed c.args.cells.now c.void_region.new.cells c.remove_and_settle.new.cells (IsInRegion c.args.b.now) (size (span c.args.b.now)) c.take_rest-rest.result.items c.void_region.new.rest.items c.args.steps.now c.void_region.new.steps c.remove_and_settle.new.steps
    c.take_rest-rest.ensures c.in_ok-void_region.ensures.voided c.in_ok-void_region.ensures.touches
    (subst (λ (xs : List Coord). HaveRemoved c.void_region.new.cells c.remove_and_settle.new.cells xs 56 c.void_region.new.steps c.remove_and_settle.new.steps) c.as_slice.ensures.value c.in_ok-remove_and_settle.ensures)
