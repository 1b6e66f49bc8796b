-- The worked examples of the facts of plans, by computing their numbers.
use Rattle.std.proofs.Common.{◌≡◌, ℕ, ◌≤ℤ◌, pos, [], refl, sym, ap, arith}
use Rattle.std.proofs.lemmas.Int.{ints}
use Rattle.nano_spec.specs.Matrix.{empty, full_count}
use Rattle.group_planner.specs.Rows.{full_before, sum_below}
use Rattle.plan_choice.specs.Worked.{WorkedCosts, WorkedCrews, WorkedPlanners, WorkedPlans, three_voxels}

is_full : (r k : ℕ) → three_voxels r ≡ empty k → full_count (three_voxels r) ≡ full_count (empty k)
is_full r k e = ap full_count e

pub worked_plans : WorkedPlans
worked_plans = record {
  between_two_models = λ commands energy steps. (
    λ h. (h.are_commands, h.accepted, h.few_bots),
    λ h. record {
      are_commands = h.0;
      accepted = h.1;
      few_bots = h.2;
      halt_alone = λ e. let three : 3 ≡ 0 = is_full 3 3 (sym e) in cc;
    },
  );
  to_the_same_model = λ commands energy steps h. h.halt_alone refl;
}

pub worked_planners : WorkedPlanners
unfolding full_before sum_below
worked_planners = record {
  layer_plans = λ commands energy steps. (λ h. (h.plan, h.bytes), λ h. record { plan = h.0; bytes = h.1 });
  void_plans = λ commands energy steps. (λ h. (h.plan, h.few_steps), λ h. record { plan = h.0; few_steps = h.1 });
  group_plans = λ commands energy steps. (
    λ h. (h.plan, h.few_steps, h.few_commands, h.few_bytes),
    λ h. record { plan = h.0; few_steps = h.1; few_commands = h.2; few_bytes = h.3 },
  );
  low_plans = λ commands energy steps. (
    λ h. (h.plan, h.accepted_as_light, h.plain, h.few_steps),
    λ h. record { plan = h.0; accepted_as_light = h.1; plain = h.2; few_steps = h.3 },
  );
  swarm_plans = λ commands energy steps. (
    λ h. (h.plan, h.accepted_as_light, h.few_steps),
    λ h. record { plan = h.0; accepted_as_light = h.1; few_steps = h.2 },
  );
}

pub worked_costs : WorkedCosts
worked_costs = record {
  as_dear = ([], pos 5, 0, (refl, refl, refl), omega (arith, ints));
  no_plan = λ h. h.3;
  a_cheaper_plan = λ h. let paid : h.1 ≡ pos 4 = h.3 in let more : pos 5 ≤ℤ h.1 = h.4 in omega (arith, ints, paid, more);
}

pub worked_crews : WorkedCrews
unfolding full_before sum_below
worked_crews = record {
  to_the_empty_model = λ commands energy steps. (
    λ h. (h.plan, h.few_bytes, h.as_layer, h.as_group (omega arith), h.as_void refl),
    λ h. record {
      plan = h.0;
      few_bytes = h.1;
      as_layer = h.2;
      as_group = λ few. h.3;
      as_void = λ e. h.4;
      as_low = λ e supported. let three : 3 ≡ 0 = is_full 3 3 e in cc;
      as_swarm = λ e. let three : 3 ≡ 0 = is_full 3 3 e in cc;
    },
  );
  from_the_empty_model = λ commands energy steps. (
    λ h. (h.plan, h.few_bytes, h.as_layer, h.as_group (omega arith), h.as_low refl, h.as_swarm refl),
    λ h. record {
      plan = h.0;
      few_bytes = h.1;
      as_layer = h.2;
      as_group = λ few. h.3;
      as_void = λ e. let three : 3 ≡ 0 = is_full 4 4 e in cc;
      as_low = λ e. h.4;
      as_swarm = λ e. h.5;
    },
  );
  by_a_longest_group_plan = λ source target few commands energy steps h. h.as_group few;
}
