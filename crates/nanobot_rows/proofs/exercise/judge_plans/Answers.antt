use Rattle.std.proofs.Common.{rules, ◌≡◌, ap}
use Rattle.nano_spec.specs.Matrix.{Matrix}
use Rattle.plan_choice.specs.Planners.{IsGroupPlan, IsLayerPlan}
use Rattle.plan_choice.proofs.Empty.{legal_where_empty}
use Rattle.nanobot_rows.proofs.Exercised.{costs_of, exercised}
use Rattle.nanobot_rows.proofs.exercise.judge_plans.Goals as goal

pub choose_layer_plan-requires : goal.choose_layer_plan-requires
choose_layer_plan-requires g c = record {
  source = legal_where_empty c.in_ok-nothing.nothing c.args.resolution (c.in_ok-nothing.ensures {u = tt}).value;
  target = search rules;
  same = search rules;
}

pub choose_group_plan-requires : goal.choose_group_plan-requires
choose_group_plan-requires g c = record {
  source = legal_where_empty c.in_ok-nothing.nothing c.args.resolution (c.in_ok-nothing.ensures {u = tt}).value;
  target = search rules;
  same = search rules;
}

pub returns : goal.returns
returns g c =
    let target = c.in_ok-target.target in
    let nothing = c.in_ok-nothing.nothing in
    let is = (c.in_ok-target.ensures {u = tt}).value in
    let empty_is = (c.in_ok-nothing.ensures {u = tt}).value in
    let same : target.resolution ≡ c.args.resolution = ap (λ (m : Matrix). m.resolution) is in
    let first = c.in_ok-first.first in
    let second = c.in_ok-second.second in
    let layer_plan : IsLayerPlan nothing target first.commands first.energy first.steps = c.in_ok-first.ensures {u = tt} in
    let group_plan : IsGroupPlan nothing target second.commands second.energy second.steps = c.in_ok-second.ensures {u = tt} in
    record {
      ends = λ told before now. exercised told c.args.number c.args.resolution c.count.result target c.in_ok-layer.layer c.in_ok-group.group is
          (costs_of IsLayerPlan c.args.resolution nothing target first.commands first.energy first.steps c.in_ok-layer.layer empty_is same layer_plan (c.in_ok-layer.ensures {u = tt}))
          (costs_of IsGroupPlan c.args.resolution nothing target second.commands second.energy second.steps c.in_ok-group.group empty_is same group_plan (c.in_ok-group.ensures {u = tt}))
          c.count.ensures.value;
    }
