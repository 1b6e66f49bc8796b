use Rattle.std.proofs.Common.{ℕ, ◌<◌, sym, subst, List, length, drop, get_or}
use Rattle.std.proofs.lemmas.List.{drop_more}
use Rattle.vox_geom.specs.declared.coordinate.Coord.{Coord}
use Rattle.nano_spec.specs.declared.system.Bot.{Bot}
use Rattle.plan_tape.specs.declared.axis.Axis.{Axis}
use Rattle.swarm_planner.specs.Strips.{held}
use Rattle.swarm_planner.specs.Crew.{AreNear, IsNearOn}
use Rattle.swarm_planner.proofs.steps.leads.Goals as goal
use Rattle.vox_geom.specs.Point.{coord}

abbrev nobody : Bot
nobody = record { bid = 0; pos = record { x = 0; y = 0; z = 0 }; seeds = 0 }

head_near : (axis : Axis) (w l i : ℕ) (bots : List Bot) (c : Coord) → i < length bots → AreNear axis w l (drop i bots) c
    → IsNearOn axis (get_or bots i nobody).pos (held l c)
head_near axis w l i bots c h n = let near = subst (λ (bs : List Bot). AreNear axis w l bs c) (drop_more bots i nobody h) n in near.0

pub lead-requires : goal.lead-requires
lead-requires c =
    subst (λ v. IsNearOn c.args.axis (get_or c.args.bots.now c.loop-i.i nobody).pos (coord v c.args.to.y c.args.to.z)) (sym c.min.ensures)
    (head_near c.args.axis c.args.width c.args.last c.loop-i.i c.args.bots.now (coord c.loop-i.x c.args.to.y c.args.to.z) c.loop-i-test.true c.loop-i.invariant.near)
