-- A crew's plan in the making, by the plans of which it is one.
use Rattle.std.proofs.Common.{◌≡◌, ◌⊎◌, ◌∙◌, ℕ, ◌≤◌, List, inl, inr, sym, subst, arith, length}
use Rattle.std.specs.Prelude.{Option, ℤ, ◌≤ℤ◌}
use Rattle.std.proofs.lemmas.Int.{ints}
use Rattle.nano_spec.specs.declared.commands.Command.{Command}
use Rattle.nano_spec.specs.Matrix.{Matrix, full_count}
use Rattle.nano_spec.specs.Model.{volume}
use Rattle.nano_spec.specs.Profile.{full_profile, light_profile}
use Rattle.nano_spec.specs.Spelling.{spellings}
use Rattle.group_planner.specs.Bounds.{most_bytes}
use Rattle.low_planner.proofs.Builds.{full_most}
use Rattle.plan_tape.specs.declared.tape.Plan.{Plan}
use Rattle.plan_tape.specs.Reaches.{HasAtMost}
use Rattle.plan_choice.specs.declared.plans.LeastEnergy.{LeastEnergy}
use Rattle.plan_choice.specs.Crew.{IsForCrew, IsLeast, IsNoMoreThan, Replaces}
use Rattle.plan_choice.proofs.Lengths.{few_commands, four_each, layer_fits, low_fits, swarm_fits, two_each, void_fits, volume_most}
use Rattle.plan_choice.specs.Planners.{byte_limit, IsGroupPlan, IsLayerPlan, IsLowPlan, IsNoDearer, IsSwarmPlan, IsVoidPlan, PlanFacts}

-- ---- the cheaper one of two plans

pub either_crew : (source target : Matrix) (first second it : Plan) → IsForCrew source target first
    → IsForCrew source target second → Replaces first second it → IsForCrew source target it
either_crew source target first second it a b h = by h.either
  where
    by : (it ≡ first) ⊎ (it ≡ second) → IsForCrew source target it
    by (inl e) = subst (λ (p : Plan). IsForCrew source target p) (sym e) a
    by (inr e) = subst (λ (p : Plan). IsForCrew source target p) (sym e) b

-- an energy that is at most another planner's plan's
pub no_dearer : (Is : PlanFacts) (source target : Matrix) (other : Plan) (energy : ℤ)
    → Is source target other.commands other.energy other.steps → energy ≤ℤ other.energy
    → IsNoDearer Is source target energy
no_dearer Is source target other energy is h = (other.commands, other.energy, other.steps, is, h)

-- and one that is at most that
pub cheaper_still : (Is : PlanFacts) (source target : Matrix) (energy paid : ℤ) → energy ≤ℤ paid
    → IsNoDearer Is source target paid → IsNoDearer Is source target energy
cheaper_still Is source target energy paid l h = (h.0, h.1, h.2, h.3, let k = h.4 in omega (arith, ints, l, k))

-- an energy that is at most that of a plan found with a ceiling, and at most the ceiling, is at most the plan's least energy
pub under_least : (ceiling energy least it : ℤ) → IsLeast ceiling energy least → it ≤ℤ ceiling → it ≤ℤ energy
    → it ≤ℤ least
under_least ceiling energy least it h under below = by h.either
  where
    by : (ceiling ≤ℤ least) ⊎ (energy ≤ℤ least) → it ≤ℤ least
    by (inl l) = omega (arith, ints, under, l)
    by (inr l) = omega (arith, ints, below, l)

-- and one that is less than that
pub less_than : (energy paid : ℤ) (asked : Option LeastEnergy) → energy ≤ℤ paid → IsNoMoreThan paid asked
    → IsNoMoreThan energy asked
less_than energy paid asked l h = (h.0, h.1, let k = h.2 in omega (arith, ints, l, k))

-- ---- other planners' plans

pub fewer : (source : Matrix) (commands : List Command) (n : ℕ) → n ≤ 40 → HasAtMost source full_profile commands n
    → HasAtMost source full_profile commands 40
fewer source commands n l h = λ before rest s steps e r. let k = h before rest s steps e r in omega (arith, k, l)

module _ (source target : Matrix) (plan : Plan) where
  pub layer_crew : source.resolution ≤ 400 → IsLayerPlan source target plan.commands plan.energy plan.steps
      → IsForCrew source target plan
  layer_crew most h = record {
    plan = record {
      are_commands = h.plan.are_commands;
      accepted = h.plan.accepted;
      few_bots = fewer source plan.commands 1 (omega arith) h.plan.few_bots;
      halt_alone = h.plan.halt_alone;
    };
    few_bytes = layer_fits source.resolution (length (spellings plan.commands)) most h.bytes;
  }

  pub group_crew : most_bytes source target ≤ byte_limit
      → IsGroupPlan source target plan.commands plan.energy plan.steps → IsForCrew source target plan
  group_crew fits h = record {
    plan = record {
      are_commands = h.plan.are_commands;
      accepted = h.plan.accepted;
      few_bots = fewer source plan.commands 2 (omega arith) h.plan.few_bots;
      halt_alone = h.plan.halt_alone;
    };
    few_bytes = let few = h.few_bytes in omega (arith, few, fits);
  }

  pub void_crew : source.resolution ≤ 400 → IsVoidPlan source target plan.commands plan.energy plan.steps
      → IsForCrew source target plan
  void_crew most h = record {
    plan = record {
      are_commands = h.plan.are_commands;
      accepted = h.plan.accepted;
      few_bots = fewer source plan.commands 4 (omega arith) h.plan.few_bots;
      halt_alone = h.plan.halt_alone;
    };
    few_bytes = void_fits source.resolution plan.steps (length plan.commands) (length (spellings plan.commands)) most h.few_steps
        (few_commands source target full_profile plan.commands 4 h.plan.few_bots plan.energy plan.steps h.plan.accepted) (four_each plan.commands);
  }

  pub low_crew : target.resolution ≤ 400 → HasAtMost source full_profile plan.commands 40
      → IsLowPlan source target plan.commands plan.energy plan.steps → IsForCrew source target plan
  low_crew most few h = record {
    plan = record {
      are_commands = h.plan.are_commands;
      accepted = h.plan.accepted;
      few_bots = few;
      halt_alone = h.plan.halt_alone;
    };
    few_bytes = low_fits (volume target.resolution) (full_count target) plan.steps (length plan.commands) (length (spellings plan.commands)) (volume_most target.resolution most) (full_most target) h.few_steps
        (few_commands source target light_profile plan.commands 1 h.plan.few_bots plan.energy plan.steps h.accepted_as_light) (two_each plan.commands h.plain);
  }

  pub swarm_crew : target.resolution ≤ 400 → HasAtMost source full_profile plan.commands 40
      → IsSwarmPlan source target plan.commands plan.energy plan.steps → IsForCrew source target plan
  swarm_crew most few h = record {
    plan = record {
      are_commands = h.plan.are_commands;
      accepted = h.plan.accepted;
      few_bots = few;
      halt_alone = h.plan.halt_alone;
    };
    few_bytes = swarm_fits target.resolution plan.steps (length plan.commands) (length (spellings plan.commands)) most h.few_steps
        (few_commands source target light_profile plan.commands 20 h.plan.few_bots plan.energy plan.steps h.accepted_as_light) (four_each plan.commands);
  }
