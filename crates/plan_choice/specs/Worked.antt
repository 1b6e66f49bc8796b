-- Worked examples of the facts of plans: the most bots, and the bounds.
use Rattle.std.specs.Prelude.{◌≡◌, ℕ, ◌^◌, ◌≤◌, ◌↔◌, ℤ, pos, All, List, None, [], ◌∷◌, length}
use Rattle.vox_geom.specs.Point.{coord}
use Rattle.nano_spec.specs.declared.commands.Command.{Command}
use Rattle.nano_spec.specs.declared.commands.Command.TheVariants.{Halt}
use Rattle.nano_spec.specs.declared.outcomes.Verdict.TheVariants as verdict
use Rattle.nano_spec.specs.Cutting.{AreCommands}
use Rattle.nano_spec.specs.Matrix.{Matrix, empty}
use Rattle.nano_spec.specs.Profile.{full_profile, light_profile}
use Rattle.nano_spec.specs.Spelling.{spellings}
use Rattle.nano_spec.specs.Verdict.{VerdictOf}
use Rattle.nano_spec.specs.Worked.{voxels_at}
use Rattle.group_planner.specs.Bounds as group
use Rattle.low_planner.specs.Commands as low
use Rattle.low_planner.specs.Supported.{FirstUnsupported}
use Rattle.plan_tape.specs.Reaches.{HasAtMost}
use Rattle.plan_choice.specs.Planners.{IsCrewPlan, IsGroupPlan, IsLayerPlan, IsLowPlan, IsNoDearer, IsPlan, IsSwarmPlan, IsVoidPlan, PlanFacts}

-- three voxels in two rows, of which one has two runs, at a resolution
abbrev pub three_voxels : ℕ → Matrix
three_voxels r = voxels_at r (coord 1 0 0 ∷ coord 1 0 2 ∷ coord 2 0 0 ∷ [])

-- the first facts hold for each plan between these models with the second facts
abbrev pub EachHas : PlanFacts → PlanFacts → Matrix → Matrix → Type 0
EachHas Has Is source target = (commands : List Command) (energy : ℤ) (steps : ℕ)
    → Is source target commands energy steps → Has source target commands energy steps

-- the facts are the same of each plan between these models
abbrev pub AreOne : PlanFacts → PlanFacts → Matrix → Matrix → Type 0
AreOne Is Are source target = (commands : List Command) (energy : ℤ) (steps : ℕ)
    → (Is source target commands energy steps ↔ Are source target commands energy steps)

-- every plan, of two bots at most by the light profile: between two models, and from a model to itself
pub record WorkedPlans : Type 0 where
  pub between_two_models : AreOne (IsPlan light_profile 2)
      (λ source target commands energy steps. AreCommands commands
      × VerdictOf source target commands full_profile (verdict.Accepted energy steps)
      × HasAtMost source light_profile commands 2)
      (empty 3) (three_voxels 3)
  pub to_the_same_model : EachHas (λ source target commands energy steps. commands ≡ Halt ∷ [])
      (IsPlan light_profile 2) (empty 3) (empty 3)

-- the facts of each planner's plans but the crew's, in numbers: the source and the target differ in resolution, which
-- shows by which of them a bound goes
pub record WorkedPlanners : Type 0 where
  pub layer_plans : AreOne IsLayerPlan
      (λ source target commands energy steps. IsPlan full_profile 1 source target commands energy steps
      × (length (spellings commands) ≤ 416))
      (empty 3) (three_voxels 4)
  pub void_plans : AreOne IsVoidPlan
      (λ source target commands energy steps. IsPlan full_profile 4 source target commands energy steps
      × (steps ≤ 696))
      (empty 31) (empty 3)
  pub group_plans : AreOne IsGroupPlan
      (λ source target commands energy steps. IsPlan full_profile 2 source target commands energy steps
      × (steps ≤ 1344) × (length commands ≤ 2688) × (length (spellings commands) ≤ 5388))
      (empty 3) (three_voxels 4)
  pub low_plans : AreOne IsLowPlan
      (λ source target commands energy steps. IsPlan light_profile 1 source target commands energy steps
      × VerdictOf source target commands light_profile (verdict.Accepted energy steps) × All low.IsPlain commands
      × (steps ≤ 276))
      (empty 3) (three_voxels 4)
  pub swarm_plans : AreOne IsSwarmPlan
      (λ source target commands energy steps. IsPlan light_profile 20 source target commands energy steps
      × VerdictOf source target commands light_profile (verdict.Accepted energy steps) × (steps ≤ 6416))
      (empty 3) (empty 23)

-- some plan with these facts costs no less
pub record WorkedCosts : Type 0 where
  pub as_dear : IsNoDearer
      (λ source target commands paid steps. (source ≡ empty 3) × (target ≡ empty 4) × (paid ≡ pos 5))
      (empty 3) (empty 4) (pos 5)
  pub no_plan : IsNoDearer (λ source target commands paid steps. ⊥) (empty 3) (empty 4) (pos 5) → ⊥
  pub a_cheaper_plan : IsNoDearer (λ source target commands paid steps. paid ≡ pos 4) (empty 3) (empty 4) (pos 5) → ⊥

-- the crew's plans: to the empty model, from it, and with a group plan that is nearly too long
pub record WorkedCrews : Type 0 where
  pub to_the_empty_model : AreOne IsCrewPlan
      (λ source target commands energy steps. IsPlan full_profile 40 source target commands energy steps
      × (length (spellings commands) ≤ 1073741824) × IsNoDearer IsLayerPlan source target energy
      × IsNoDearer IsGroupPlan source target energy × IsNoDearer IsVoidPlan source target energy)
      (three_voxels 3) (empty 4)
  pub from_the_empty_model : AreOne IsCrewPlan
      (λ source target commands energy steps. IsPlan full_profile 40 source target commands energy steps
      × (length (spellings commands) ≤ 1073741824) × IsNoDearer IsLayerPlan source target energy
      × IsNoDearer IsGroupPlan source target energy
      × (FirstUnsupported target None → IsNoDearer IsLowPlan source target energy)
      × IsNoDearer IsSwarmPlan source target energy)
      (empty 3) (three_voxels 4)
  pub by_a_longest_group_plan : (source target : Matrix) → group.most_bytes source target ≤ 2 ^ 30
      → EachHas (λ source target commands energy steps. IsNoDearer IsGroupPlan source target energy) IsCrewPlan source
      target
