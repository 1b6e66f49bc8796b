use Rattle.std.proofs.Common.{◌≡◌, ℕ, ◌+◌, ◌-◌, ◌*◌, ◌<◌, ◌≤◌, ap, arith, subst, sym}
use Rattle.vox_geom.specs.declared.coordinate.Coord.{Coord}
use Rattle.vox_planes.proofs.Walks.{size-walls}
use Rattle.vox_planes.specs.Walk.{wall_size}
use Rattle.support_forest.specs.Regions.{AreVoided, IsInRegion, IsInWalls}
use Rattle.support_forest.proofs.Voiding.{more_steps, wall_before_region, walls_are_region}
use Rattle.support_forest.proofs.region.void_region.Goals as goal

pub loop-x-preserved : goal.loop-x-preserved
loop-x-preserved g c =
    let invariant = c.loop-x.invariant in
    let corners = c.args.b.now in
    let low = ap (λ (p : Coord). p.x) c.low-low.ensures.value in
    let below_x : corners.low.x < c.loop-x.x = omega (arith, low, c.loop-x-test.true) in
    let at_most_sum : c.loop-x.x ≤ corners.high.x + 1 = invariant.1.0 in
    let difference_x = c.loop-x.x - 1 in
    let same_x : c.loop-x.x ≡ difference_x + 1 = omega arith in
    let steps_at_most : c.loop-x.steps ≤ c.args.steps.now + 40 * ((corners.high.x + 1 - (difference_x + 1)) * wall_size corners) = subst (λ (n : ℕ). c.loop-x.steps ≤ c.args.steps.now + 40 * ((corners.high.x + 1 - n) * wall_size corners)) same_x invariant.1.1.0 in (
      omega arith,
      (
        omega arith,
        (
          more_steps corners.high.x difference_x (wall_size corners) c.args.steps.now c.loop-x.steps c.void_wall.new.steps (omega arith) steps_at_most c.in_ok-void_wall.ensures.touches,
          wall_before_region c.args.cells.now c.loop-x.cells c.void_wall.new.cells corners difference_x c.args.rest.now.items c.loop-x.rest.items c.void_wall.new.rest.items (omega arith)
              (subst (λ (n : ℕ). AreVoided c.args.cells.now c.loop-x.cells (IsInWalls corners n) ((corners.high.x + 1 - n) * wall_size corners) c.args.rest.now.items c.loop-x.rest.items) same_x invariant.1.1.1)
              c.in_ok-void_wall.ensures.voided,
        ),
      ),
    )

pub returns-clause-voided : goal.returns-clause-voided
returns-clause-voided g c =
    let invariant = c.loop-x.invariant in
    let corners = c.args.b.now in
    let low = ap (λ (p : Coord). p.x) c.low-low.ensures.value in
    let at_most_x : corners.low.x ≤ c.loop-x.x = invariant.0 in
    let same_x : c.loop-x.x ≡ corners.low.x = omega (arith, low, c.loop-x-test.false) in
    subst (λ (n : ℕ). AreVoided c.args.cells.now c.loop-x.cells (IsInRegion corners) n c.args.rest.now.items c.loop-x.rest.items) (sym (size-walls corners c.low-low.ensures.ordered))
    (walls_are_region c.args.cells.now c.loop-x.cells corners ((corners.high.x + 1 - corners.low.x) * wall_size corners) c.args.rest.now.items c.loop-x.rest.items c.low-low.ensures.ordered
    (subst (λ (n : ℕ). AreVoided c.args.cells.now c.loop-x.cells (IsInWalls corners n) ((corners.high.x + 1 - n) * wall_size corners) c.args.rest.now.items c.loop-x.rest.items) same_x invariant.1.1.1))

pub returns-clause-touches : goal.returns-clause-touches
returns-clause-touches g c =
    let invariant = c.loop-x.invariant in
    let corners = c.args.b.now in
    let low = ap (λ (p : Coord). p.x) c.low-low.ensures.value in
    let at_most_x : corners.low.x ≤ c.loop-x.x = invariant.0 in
    let same_x : c.loop-x.x ≡ corners.low.x = omega (arith, low, c.loop-x-test.false) in
    let walls_size = size-walls corners c.low-low.ensures.ordered in
    let at_most_sum : c.loop-x.steps ≤ c.args.steps.now + 40 * ((corners.high.x + 1 - corners.low.x) * wall_size corners) = subst (λ (n : ℕ). c.loop-x.steps ≤ c.args.steps.now + 40 * ((corners.high.x + 1 - n) * wall_size corners)) same_x invariant.1.1.0 in
    subst (λ (n : ℕ). c.loop-x.steps ≤ c.args.steps.now + 40 * n) (sym walls_size) at_most_sum
