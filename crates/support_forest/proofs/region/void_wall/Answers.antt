use Rattle.std.proofs.Common.{◌≡◌, ℕ, ◌+◌, ◌-◌, ◌*◌, ◌<◌, ◌≤◌, ap, arith, subst}
use Rattle.vox_geom.specs.declared.coordinate.Coord.{Coord}
use Rattle.vox_planes.specs.Walk.{row_size}
use Rattle.support_forest.specs.Regions.{AreVoided, IsInWall}
use Rattle.support_forest.proofs.Voiding.{more_steps, row_before_wall, row_of_region}
use Rattle.support_forest.proofs.region.void_wall.Goals as goal

pub loop-y-preserved : goal.loop-y-preserved
loop-y-preserved g c =
    let invariant = c.loop-y.invariant in
    let corners = c.args.b.now in
    let low = ap (λ (p : Coord). p.y) c.low-low.ensures.value in
    let below_y : corners.low.y < c.loop-y.y = omega (arith, low, c.loop-y-test.true) in
    let at_most_sum : c.loop-y.y ≤ corners.high.y + 1 = invariant.1.0 in
    let difference_y = c.loop-y.y - 1 in
    let same_y : c.loop-y.y ≡ difference_y + 1 = omega arith in
    let same_z = ap (λ (p : Coord). p.z) c.low-low.ensures.value in
    let z_is = ap (λ (p : Coord). p.z) c.high-high.ensures.value in
    let steps_at_most : c.loop-y.steps ≤ c.args.steps.now + 40 * ((corners.high.y + 1 - (difference_y + 1)) * row_size corners) = subst (λ (n : ℕ). c.loop-y.steps ≤ c.args.steps.now + 40 * ((corners.high.y + 1 - n) * row_size corners)) same_y invariant.1.1.0 in
    let at_most_sum_here : c.void_row.new.steps ≤ c.loop-y.steps + 40 * row_size corners = omega (arith, same_z, z_is, c.in_ok-void_row.ensures.touches) in
    let low_along_z = c.low-low.ensures.ordered.z in (
      omega arith,
      (
        omega arith,
        (
          more_steps corners.high.y difference_y (row_size corners) c.args.steps.now c.loop-y.steps c.void_row.new.steps (omega arith) steps_at_most at_most_sum_here,
          row_before_wall c.args.cells.now c.loop-y.cells c.void_row.new.cells corners c.args.x difference_y c.args.rest.now.items c.loop-y.rest.items c.void_row.new.rest.items (omega arith) (omega arith) low_along_z
              (subst (λ (n : ℕ). AreVoided c.args.cells.now c.loop-y.cells (IsInWall corners c.args.x n) ((corners.high.y + 1 - n) * row_size corners) c.args.rest.now.items c.loop-y.rest.items) same_y invariant.1.1.1)
              (row_of_region c.loop-y.cells c.void_row.new.cells corners c.low-low.result c.high-high.result c.args.x difference_y c.loop-y.rest.items c.void_row.new.rest.items c.low-low.ensures.value c.high-high.ensures.value c.in_ok-void_row.ensures.voided),
        ),
      ),
    )

pub returns-clause-voided : goal.returns-clause-voided
returns-clause-voided g c =
    let invariant = c.loop-y.invariant in
    let corners = c.args.b.now in
    let low = ap (λ (p : Coord). p.y) c.low-low.ensures.value in
    let at_most_y : corners.low.y ≤ c.loop-y.y = invariant.0 in
    let same_y : c.loop-y.y ≡ corners.low.y = omega (arith, low, c.loop-y-test.false) in
    subst (λ (n : ℕ). AreVoided c.args.cells.now c.loop-y.cells (IsInWall corners c.args.x n) ((corners.high.y + 1 - n) * row_size corners) c.args.rest.now.items c.loop-y.rest.items) same_y invariant.1.1.1
