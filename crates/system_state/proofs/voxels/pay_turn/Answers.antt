use Rattle.std.proofs.Common.{◌≡◌, ◌∙◌, sym, subst, rules, w64, to_z, of_z}
use Rattle.std.specs.Prelude.{ℤ}
use Rattle.vox_geom.specs.Point.{point}
use Rattle.nano_spec.specs.Energy.{group_cost}
use Rattle.system_state.specs.Bounds.{IsWithin}
use Rattle.system_state.proofs.voxels.pay_turn.Goals as goal

pub returns-clause-small : goal.returns-clause-small
returns-clause-small g c =
    let same : to_z w64 (of_z w64 c.turn_cost.result) ≡ c.turn_cost.result = search rules in
    let cost : c.turn_cost.result ≡ group_cost c.args.matrix.now (point c.args.bot.pos) c.args.command.now = c.turn_cost.ensures.cost c.args.matrix.now (point c.args.bot.pos) c.change_voxels-met.ensures.void c.change_voxels-met.ensures.full in
    subst (λ (z : ℤ). IsWithin 357492 z) (sym (same ∙ cost)) (record {
      above = c.a_group_costs_little.ensures.rises c.args.matrix.now (point c.args.bot.pos) c.args.command.now c.recall.ensures;
      below = c.a_group_costs_little.ensures.falls c.args.matrix.now (point c.args.bot.pos) c.args.command.now c.recall.ensures;
    })
