-- The facts of the plans, planner by planner (docs/FORMATS.md, "Printed lines").
use Rattle.std.specs.Prelude.{◌≡◌, ℕ, ◌+◌, ◌*◌, ◌≤◌, ℤ, ◌≤ℤ◌, All, List, None, [], ◌∷◌, length}
use Rattle.nano_spec.specs.declared.commands.Command.{Command}
use Rattle.nano_spec.specs.declared.commands.Command.TheVariants.{Halt}
use Rattle.nano_spec.specs.declared.outcomes.Verdict.TheVariants as verdict
use Rattle.nano_spec.specs.declared.system.Profile.{Profile}
use Rattle.nano_spec.specs.Cutting.{AreCommands}
use Rattle.nano_spec.specs.Matrix.{Matrix, empty, full_count}
use Rattle.nano_spec.specs.Model.{volume}
use Rattle.nano_spec.specs.Profile.{full_profile, light_profile}
use Rattle.nano_spec.specs.Spelling.{spellings}
use Rattle.nano_spec.specs.Verdict.{VerdictOf}
use Rattle.group_planner.specs.Bounds as group
use Rattle.low_planner.specs.Commands as low
use Rattle.low_planner.specs.Supported.{FirstUnsupported}
use Rattle.plan_tape.specs.Reaches.{HasAtMost}
use Rattle.swarm_planner.specs.Bounds.{width}
use Rattle.void_planner.specs.Bounds as void

-- the facts of a planner's commands from one model to the other, with their energy and their steps
abbrev pub PlanFacts : Type 1
PlanFacts = Matrix → Matrix → List Command → ℤ → ℕ → Type 0

-- every plan: the definitions accept the commands from one model to the other with this energy and number of steps, by
-- the profile; at most this many bots are active at once; if both models are the same, it is a Halt alone
pub record IsPlan (profile : Profile) (most : ℕ) (source target : Matrix) (commands : List Command) (energy : ℤ)
    (steps : ℕ) : Type 0 where
  pub are_commands : AreCommands commands
  pub accepted : VerdictOf source target commands full_profile (verdict.Accepted energy steps)
  pub few_bots : HasAtMost source profile commands most
  pub halt_alone : source ≡ target → commands ≡ Halt ∷ []

-- a plan of the layer planner, of one bot: its spellings have at most 8 bytes for each voxel and 200 more
pub record IsLayerPlan (source target : Matrix) (commands : List Command) (energy : ℤ) (steps : ℕ) : Type 0 where
  pub plan : IsPlan full_profile 1 source target commands energy steps
  pub bytes : length (spellings commands) ≤ 8 * volume source.resolution + 200

-- a plan of the void planner, of four bots at most, to the empty model: its steps are few
pub record IsVoidPlan (source target : Matrix) (commands : List Command) (energy : ℤ) (steps : ℕ) : Type 0 where
  pub plan : IsPlan full_profile 4 source target commands energy steps
  pub few_steps : steps ≤ void.most_void_steps source.resolution

-- a plan of the group planner, of two bots at most: steps, commands and bytes are few, by the runs and rows of both
-- models
pub record IsGroupPlan (source target : Matrix) (commands : List Command) (energy : ℤ) (steps : ℕ) : Type 0 where
  pub plan : IsPlan full_profile 2 source target commands energy steps
  pub few_steps : steps ≤ group.most_group_steps source target
  pub few_commands : length commands ≤ 2 * group.most_group_steps source target
  pub few_bytes : length (spellings commands) ≤ group.most_bytes source target

-- a plan of the low planner, of one bot, from the empty model: the light profile takes it too, none of its commands is
-- a Flip, a Fission or one of a group, and its steps are few
pub record IsLowPlan (source target : Matrix) (commands : List Command) (energy : ℤ) (steps : ℕ) : Type 0 where
  pub plan : IsPlan light_profile 1 source target commands energy steps
  pub accepted_as_light : VerdictOf source target commands light_profile (verdict.Accepted energy steps)
  pub plain : All low.IsPlain commands
  pub few_steps : steps ≤ 4 * full_count target + volume target.resolution + 200

-- a plan of the swarm planner, of twenty bots at most, from the empty model: the light profile takes it too, and its
-- steps are few, by the width of the widest strip
pub record IsSwarmPlan (source target : Matrix) (commands : List Command) (energy : ℤ) (steps : ℕ) : Type 0 where
  pub plan : IsPlan light_profile 20 source target commands energy steps
  pub accepted_as_light : VerdictOf source target commands light_profile (verdict.Accepted energy steps)
  pub few_steps :
      steps ≤ 4 * width target.resolution * target.resolution * target.resolution + 8 * target.resolution + 2000

-- the maximum length of a plan, of a trace to run and of a text, in bytes
abbrev pub byte_limit : ℕ
byte_limit = 1073741824

-- a plan with these facts costs at least this much
abbrev pub IsNoDearer : PlanFacts → Matrix → Matrix → ℤ → Type 0
IsNoDearer Is source target energy =
    (commands : List Command) × (paid : ℤ) × (steps : ℕ) × Is source target commands paid steps × (energy ≤ℤ paid)

-- a plan of the crew, of forty bots at most: its spellings are no longer than a trace that is run, and each other
-- planner that makes plans of such models has one that costs no less: of any models, of any whose group plan is not too
-- long, to the empty model, or from it
pub record IsCrewPlan (source target : Matrix) (commands : List Command) (energy : ℤ) (steps : ℕ) : Type 0 where
  pub plan : IsPlan full_profile 40 source target commands energy steps
  pub few_bytes : length (spellings commands) ≤ byte_limit
  pub as_layer : IsNoDearer IsLayerPlan source target energy
  pub as_group : group.most_bytes source target ≤ byte_limit → IsNoDearer IsGroupPlan source target energy
  pub as_void : target ≡ empty target.resolution → IsNoDearer IsVoidPlan source target energy
  pub as_low : source ≡ empty source.resolution → FirstUnsupported target None
      → IsNoDearer IsLowPlan source target energy
  pub as_swarm : source ≡ empty source.resolution → IsNoDearer IsSwarmPlan source target energy
