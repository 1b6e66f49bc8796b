-- A crew's plan in the making, and the choice of one of two plans.
use Rattle.std.specs.Prelude.{◌≡◌, ◌⊎◌, ◌≤◌, ℤ, ◌≤ℤ◌, Option, Some, None, length}
use Rattle.nano_spec.specs.Legal.{IsLegal}
use Rattle.nano_spec.specs.Matrix.{Matrix, empty}
use Rattle.nano_spec.specs.Profile.{full_profile}
use Rattle.nano_spec.specs.Spelling.{spellings}
use Rattle.group_planner.specs.Bounds.{most_bytes}
use Rattle.low_planner.specs.Supported.{FirstUnsupported}
use Rattle.plan_tape.specs.declared.tape.Plan.{Plan}
use Rattle.plan_choice.specs.declared.crew.Crew.{Crew}
use Rattle.plan_choice.specs.declared.plans.LeastEnergy.{LeastEnergy}
use Rattle.plan_choice.specs.Planners.{IsCrewPlan, IsPlan, byte_limit}

-- a plan of forty bots at most, whose spellings are no longer than a trace that is run
pub record IsForCrew (source target : Matrix) (it : Plan) : Type 0 where
  pub plan : IsPlan full_profile 40 source target it.commands it.energy it.steps
  pub few_bytes : length (spellings it.commands) ≤ byte_limit

-- a crew's plan to a legal target, which a plan from nothing may replace if the source is empty
pub record MayBuildInstead (from to : Matrix) (plan : Plan) : Type 0 where
  pub target : IsLegal to
  pub same : from.resolution ≡ to.resolution
  pub crew : IsForCrew from to plan

-- the chosen plan is one of two, and costs no more than either
pub record Replaces (first second it : Plan) : Type 0 where
  pub either : (it ≡ first) ⊎ (it ≡ second)
  pub as_first : it.energy ≤ℤ first.energy
  pub as_second : it.energy ≤ℤ second.energy

-- the least energy of a planner's plan that was sought below a ceiling: the lesser one of the ceiling and of the energy
-- of the plan that was found
pub record IsLeast (ceiling energy least : ℤ) : Type 0 where
  pub as_ceiling : least ≤ℤ ceiling
  pub as_found : least ≤ℤ energy
  pub either : (ceiling ≤ℤ least) ⊎ (energy ≤ℤ least)

-- the planner ran, and found no plan that costs less than that, as far as it searched
abbrev pub IsNoMoreThan : ℤ → Option LeastEnergy → Type 0
IsNoMoreThan energy asked = (least : LeastEnergy) × (asked ≡ Some least) × (energy ≤ℤ least.energy)

-- a crew's plan; each other planner that makes plans of such models ran with its energy as the ceiling
pub record IsCheapest (source target : Matrix) (crew : Crew) : Type 0 where
  pub plan : IsCrewPlan source target crew.plan.commands crew.plan.energy crew.plan.steps
  pub as_layer : crew.plan.energy ≤ℤ crew.layer.energy
  pub as_group : most_bytes source target ≤ byte_limit → IsNoMoreThan crew.plan.energy crew.group
  pub as_void : target ≡ empty target.resolution → IsNoMoreThan crew.plan.energy crew.void
  pub as_low : source ≡ empty source.resolution → FirstUnsupported target None
      → IsNoMoreThan crew.plan.energy crew.low
  pub as_swarm : source ≡ empty source.resolution → IsNoMoreThan crew.plan.energy crew.swarm
