use Rattle.std.proofs.Common.{subst, arith}
use Rattle.std.specs.Prelude.{◌≤ℤ◌}
use Rattle.std.proofs.lemmas.Int.{ints}
use Rattle.nano_spec.specs.Cutting.{AreCommands}
use Rattle.plan_choice.specs.Planners.{IsLayerPlan}
use Rattle.plan_choice.proofs.Crews.{no_dearer}
use Rattle.plan_choice.proofs.OwnLayer.{own_layer}
use Rattle.plan_choice.proofs.crew.proposed_by_crew.Goals as goal

pub returns-clause-as_layer : goal.returns-clause-as_layer
returns-clause-as_layer c =
    let source = c.args.source.now in
    let target = c.args.target.now in
    let own = c.in_ok-plan.plan in
    let built = c.in_ok-plan-2.plan in
    let it = c.in_ok-plan-3.plan in
    let built_costs = c.in_ok-plan-2.ensures.stands.energy in
    let it_costs = c.in_ok-plan-3.ensures.stands.energy in
    let less : it.energy ≤ℤ own.energy = omega (arith, ints, built_costs, it_costs) in
    let commands = subst AreCommands c.as_slice.ensures c.recall_all.ensures in
    let facts = c.in_ok-plan.ensures in
    no_dearer IsLayerPlan source target own it.energy (own_layer source target own commands facts.accepted facts.bytes facts.few facts.halt_alone) less
