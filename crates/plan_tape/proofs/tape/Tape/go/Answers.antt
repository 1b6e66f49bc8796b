use Rattle.std.proofs.Common.{◌≡◌, ◌+◌, ◌*◌, refl, rules, sym, ◌∙◌, ap, subst, List, ◌++◌, append_assoc, pos, to_z, of_z, w64}
use Rattle.std.specs.Prelude.{◌+ℤ◌, length}
use Rattle.vox_geom.specs.declared.coordinate.Coord.{Coord}
use Rattle.nano_spec.specs.declared.commands.Command.{Command}
use Rattle.nano_spec.specs.declared.system.Bot.{Bot}
use Rattle.nano_spec.specs.State.{State}
use Rattle.plan_tape.specs.contracts.tape.Tape.{the_view}
use Rattle.plan_tape.specs.Leg.{AreLegs, distance, moves_to}
use Rattle.plan_tape.specs.Progress.{TapeState, bots_at, progress_of, spot, upkeep_of_step}
use Rattle.plan_tape.proofs.AfterMoves.{Comes, free_one, go_makes, moved_one}
use Rattle.plan_tape.proofs.Written.{IsCharged, charged_as}
use Rattle.plan_tape.proofs.tape.Tape.go.Goals as goal

pub move_to-requires-clause-free : goal.move_to-requires-clause-free
move_to-requires-clause-free c = free_one c.self.inside.system.bots c.bots.result.now c.args.to _ (subst (λ (o : TapeState). length o.bots ≡ 1) (sym c.self.view_is) c.requires.alone) (c.bots.ensures.value ∙ c.crew.ensures.value)

legs : (c : goal.After-self-1) → (moves : List Command) × AreLegs (spot c.args.self.now.bots) c.args.to moves
    × (c.push_leg-3.new.commands.items ≡ c.self.inside.commands.items ++ moves)
legs c =
    let old = c.self.inside.commands.items in
    let leg = c.push_leg.ensures.leg in
    let leg_of_push_leg = c.push_leg-2.ensures.leg in
    let push_leg_leg = c.push_leg-3.ensures.leg in (
      leg.0 ++ leg_of_push_leg.0 ++ push_leg_leg.0,
      subst (λ (p : Coord). AreLegs p c.args.to (leg.0 ++ leg_of_push_leg.0 ++ push_leg_leg.0)) c.spot-from.ensures.value (record { x = leg.0; y = leg_of_push_leg.0; z = push_leg_leg.0; joined = refl; along_x = leg.1; along_y = leg_of_push_leg.1; along_z = push_leg_leg.1 }),
      push_leg_leg.2 ∙ (ap (λ xs. xs ++ push_leg_leg.0) (leg_of_push_leg.2 ∙ ap (λ xs. xs ++ leg_of_push_leg.0) (leg.2 ∙ ap (λ xs. xs ++ leg.0) c.take_room.ensures.items)) ∙ (ap (λ xs. xs ++ push_leg_leg.0) (append_assoc old leg.0 leg_of_push_leg.0) ∙ append_assoc old (leg.0 ++ leg_of_push_leg.0) push_leg_leg.0)),
    )

charge : (c : goal.After-self-1)
    → IsCharged c.args.self.now c.moves_to-count.result (pos (2 * distance (spot c.args.self.now.bots) c.args.to))
    (to_z w64 (of_z w64 c.energy_after-energy.result))
charge c =
    let old = c.args.self.now in
    let value : c.energy_after-energy.result ≡ (old.energy +ℤ pos (c.moves_to-count.result * upkeep_of_step old)) +ℤ pos (2 * distance c.spot-from.result c.args.to) = search rules in
    charged_as old c.moves_to-count.result _ c.energy_after-energy.result _ (search rules) (value ∙ ap (λ p. (old.energy +ℤ pos (c.moves_to-count.result * upkeep_of_step old)) +ℤ pos (2 * distance p c.args.to)) c.spot-from.ensures.value) c.energy_after-energy.ensures.bounded

comes : (c : goal.After-self-1) → Comes c.args.self.now (progress_of c.self.inside.source
    c.push_leg-3.new.commands.items c.set_energy.new.self (c.self.inside.steps + c.moves_to-count.result)) c.args.to
comes c =
    let inside = c.self.inside in
    let old = c.args.self.now in
    let the_legs = legs c in
    let energy = to_z w64 (of_z w64 c.energy_after-energy.result) in
    let count = c.moves_to-count.ensures.value ∙ ap (λ p. moves_to p c.args.to) c.spot-from.ensures.value in
    let moved : c.move_to.new.self ≡ record inside.system { bots = bots_at inside.system.bots c.args.to } =
    moved_one (λ (bots : List Bot). c.move_to.new.self ≡ record inside.system { bots = bots }) inside.system.bots c.bots.result.now c.args.to _ (subst (λ (o : TapeState). length o.bots ≡ 1) (sym c.self.view_is) c.requires.alone) (c.bots.ensures.value ∙ c.crew.ensures.value) c.move_to.ensures.moved in
    let now : c.set_energy.new.self ≡ record inside.system { bots = bots_at inside.system.bots c.args.to; energy = energy } = c.set_energy.ensures ∙ (λ i. record (moved i) { energy = energy }) in
    subst (λ (s : State). Comes old (progress_of inside.source c.push_leg-3.new.commands.items s (inside.steps + c.moves_to-count.result)) c.args.to) (sym now)
    (go_makes (the_view inside) old c.self.view_is c.self.invariant c.args.to c.push_leg-3.new.commands.items the_legs.0 (bots_at inside.system.bots c.args.to) energy c.moves_to-count.result c.requires.alone c.requires.allowed c.requires.within c.requires.ways c.requires.limit the_legs.1 the_legs.2 refl count (charge c))

pub invariant_of-self-2 : goal.invariant_of-self-2
invariant_of-self-2 c = (comes c).reached

pub returns-clause-ok : goal.returns-clause-ok
returns-clause-ok c = (comes c).moves
