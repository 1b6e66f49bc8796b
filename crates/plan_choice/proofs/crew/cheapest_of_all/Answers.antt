use Rattle.std.proofs.Common.{arith}
use Rattle.std.specs.Prelude.{◌≤ℤ◌}
use Rattle.std.proofs.lemmas.Int.{ints}
use Rattle.plan_choice.specs.Planners.{IsGroupPlan, IsLayerPlan, IsLowPlan, IsVoidPlan}
use Rattle.plan_choice.proofs.Crews.{cheaper_still, less_than}
use Rattle.plan_choice.proofs.crew.cheapest_of_all.Goals as goal

pub returns : goal.returns
returns c =
    let source = c.args.source.now in
    let target = c.args.target.now in
    let layer = c.in_ok-by_layer in
    let group = c.in_ok-by_group in
    let void = c.in_ok-by_void in
    let low = c.in_ok-by_low in
    let swarm = c.in_ok-by_swarm in
    let energy = swarm.by_swarm.plan.energy in
    let by_group = group.by_group.plan.energy in
    let by_void = void.by_void.plan.energy in
    let by_low = low.by_low.plan.energy in
    let swarm_costs = swarm.ensures.no_dearer in
    let low_costs = low.ensures.no_dearer in
    let void_costs = void.ensures.no_dearer in
    let group_costs = group.ensures.no_dearer in
    let from_void : energy ≤ℤ by_void = omega (arith, ints, swarm_costs, low_costs) in
    let from_group : energy ≤ℤ by_group = omega (arith, ints, from_void, void_costs) in
    let from_layer : energy ≤ℤ layer.by_layer.plan.energy = omega (arith, ints, from_group, group_costs) in
    let least = layer.ensures.least in
    let crew = swarm.ensures.crew in
    record {
      plan = record {
        plan = crew.plan;
        few_bytes = crew.few_bytes;
        as_layer = cheaper_still IsLayerPlan source target energy layer.by_layer.plan.energy from_layer layer.ensures.as_layer;
        as_group = λ fits. cheaper_still IsGroupPlan source target energy by_group from_group (group.ensures.as_group fits).0;
        as_void = λ there. cheaper_still IsVoidPlan source target energy by_void from_void (void.ensures.as_void there).0;
        as_low = λ here supported. cheaper_still IsLowPlan source target energy by_low swarm_costs (low.ensures.as_low here supported).0;
        as_swarm = λ here. (swarm.ensures.as_swarm here).0;
      };
      as_layer = omega (arith, ints, from_layer, least);
      as_group = λ fits. less_than energy by_group _ from_group (group.ensures.as_group fits).1;
      as_void = λ there. less_than energy by_void _ from_void (void.ensures.as_void there).1;
      as_low = λ here supported. less_than energy by_low _ swarm_costs (low.ensures.as_low here supported).1;
      as_swarm = λ here. (swarm.ensures.as_swarm here).1;
    }
