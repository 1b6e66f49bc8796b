use Rattle.std.proofs.Common.{◌≡◌, ℕ, ◌+◌, ◌≤◌, refl, arith}
use Rattle.vox_geom.specs.declared.coordinate.Coord.{Coord}
use Rattle.plan_tape.specs.declared.axis.Axis.{Axis}
use Rattle.plan_tape.specs.declared.axis.Axis.TheVariants.{X, Y, Z}
use Rattle.plan_tape.specs.Leg.{component_of, gap, put}
use Rattle.plan_tape.specs.Progress.{spot}
use Rattle.swarm_planner.proofs.paint.go_along.Goals as goal

component_of-put : (axis : Axis) (c : Coord) (v : ℕ) → component_of axis (put axis c v) ≡ v
component_of-put X c v = refl
component_of-put Y c v = refl
component_of-put Z c v = refl

near : (axis : Axis) (p q c d : Coord) (u v : ℕ) → p ≡ put axis c u → q ≡ put axis d v → (v ≤ u + 15) × (u ≤ v + 15)
    → gap (component_of axis p) (component_of axis q) ≤ 15
near axis p q c d u v e f h = rw (e, f, component_of-put axis c u, component_of-put axis d v) (let a = h.0 in let b = h.1 in omega arith)

pub move_row-requires-clause-near : goal.move_row-requires-clause-near
move_row-requires-clause-near c =
    near c.args.axis (spot c.loop-at.tape.bots) c.with_component.result (spot c.args.tape.now.bots) c.first_place-from.result c.loop-at.at c.next_stop-at.result c.loop-at.invariant.goes.there c.with_component.ensures c.next_stop-at.ensures.near
