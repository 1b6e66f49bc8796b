use Rattle.std.proofs.Common.{rules, ◌≡◌, ◌∙◌, sym, ap, subst, List, w64, to_z, of_z}
use Rattle.std.specs.Prelude.{All, ◌+ℤ◌, ℤ}
use Rattle.nano_spec.specs.declared.system.Bot.{Bot}
use Rattle.nano_spec.specs.Energy.{group_cost}
use Rattle.nano_spec.specs.State.{State}
use Rattle.energy_sum.specs.Costs.{space_upkeep}
use Rattle.vox_geom.specs.Point.{point}
use Rattle.vox_geom.specs.Space.{IsInSpace}
use Rattle.system_state.specs.Bounds.{IsTurnCost, IsWithin}
use Rattle.system_state.specs.Effects.{MayTake, after_turn, bots_after_turn}
use Rattle.system_state.proofs.Bots.{turn_within}
use Rattle.system_state.proofs.system.System.take_other_turn.Goals as goal

pub invariant_of-self : goal.invariant_of-self
invariant_of-self g c =
    let may : MayTake c.self.inside.matrix.resolution c.self.inside.crew c.args.bot c.args.partner c.args.command.now =
    subst (λ (t : State). MayTake t.matrix.resolution t.bots c.args.bot c.args.partner c.args.command.now) (sym c.self.view_is) c.requires.may in
    let same : c.self.inside.matrix.resolution ≡ c.pay_turn-cost.new.matrix.resolution = sym (ap (λ m. m.resolution) c.pay_turn-cost.ensures.matrix) in (
      subst (λ (bots : List Bot). All (λ b. IsInSpace c.pay_turn-cost.new.matrix.resolution b.pos) bots) (sym c.move_bots.ensures)
          (subst (λ r. All (λ b. IsInSpace r b.pos) (bots_after_turn c.self.inside.crew c.args.bot c.args.partner c.args.command.now)) same (turn_within c.self.inside.matrix.resolution c.self.inside.crew c.args.bot c.args.partner c.args.command.now c.self.invariant.0 may)),
      c.space_upkeep-self-inside.ensures.value ∙ ap (λ r. space_upkeep r c.harmonics_by-self-inside.result) (c.resolution-resolution.ensures.value ∙ same),
    )

pub pay-requires-clause-small : goal.pay-requires-clause-small
pay-requires-clause-small g c =
    let same : to_z w64 (of_z w64 c.pay_turn-cost.result) ≡ c.pay_turn-cost.result = search rules in
    subst (λ (z : ℤ). IsTurnCost z) (sym same) c.pay_turn-cost.ensures.small

pub returns-clause-value : goal.returns-clause-value
returns-clause-value g c =
    let same : to_z w64 (of_z w64 c.pay_turn-cost.result) ≡ c.pay_turn-cost.result = search rules in
    let cost : to_z w64 (of_z w64 c.pay_turn-cost.result) ≡ group_cost c.self.inside.matrix (point c.args.bot.pos) c.args.command.now = same ∙ c.pay_turn-cost.ensures.cost in
    c.pay.ensures.value
    ∙ subst (λ (t : State). record { matrix = c.pay_turn-cost.new.matrix; harmonics = c.harmonics_by-self-inside.result; bots = c.move_bots.new.crew; energy = c.self.inside.energy +ℤ to_z w64 (of_z w64 c.pay_turn-cost.result); profile = c.self.inside.profile } ≡ after_turn t c.args.bot c.args.partner c.args.command.now) c.self.view_is
    (λ i. record {
      matrix = c.pay_turn-cost.ensures.matrix i;
      harmonics = c.harmonics_by-self-inside.ensures c.args.bot i;
      bots = c.move_bots.ensures i;
      energy = c.self.inside.energy +ℤ cost i;
      profile = c.self.inside.profile;
    })

pub returns-clause-within : goal.returns-clause-within
returns-clause-within g c = λ k h. c.pay.ensures.within k (subst (λ (t : State). IsWithin k t.energy) (sym c.self.view_is) h)
