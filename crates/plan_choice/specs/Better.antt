-- When a proposal is better than a plan, and the facts of the final plan.
use Rattle.std.specs.Prelude.{◌≡◌, ℕ, ◌<◌, ◌≤◌, ℤ, ◌<ℤ◌, ◌≤ℤ◌, List, None, count_by, length}
use Rattle.nano_spec.specs.declared.commands.Command.{Command}
use Rattle.nano_spec.specs.declared.system.Profile.{Profile}
use Rattle.nano_spec.specs.Grounded.{FirstUngrounded}
use Rattle.nano_spec.specs.Matrix.{Matrix}
use Rattle.nano_spec.specs.Spelling.{spellings}
use Rattle.plan_tape.specs.declared.tape.Plan.{Plan}
use Rattle.plan_tape.specs.Progress.{IsAccepted}
use Rattle.plan_tape.specs.Reaches.{HasAtMost}
use Rattle.plan_choice.specs.declared.bounds.Bounds.{Bounds}
use Rattle.plan_tape.specs.Fissions.{is_fission}

-- a run may begin with this source, by this profile
pub record CanRun (source : Matrix) (profile : Profile) : Type 0 where
  pub grounded : FirstUngrounded source None
  pub seeds : profile.seeds ≤ 39

-- the commands are no more than a run may have, cost less than that, and keep to the bounds, the bots by counting
-- Fissions
pub record IsBetter (than : ℤ) (most : Bounds) (commands : List Command) (energy : ℤ) (steps : ℕ) : Type 0 where
  pub run : length commands ≤ 1073741824
  pub cheaper : energy <ℤ than
  pub steps_are : steps ≤ most.steps
  pub commands_are : length commands ≤ most.commands
  pub bytes_are : length (spellings commands) ≤ most.bytes
  pub fissions_are : count_by is_fission commands < most.bots

-- a plan that may replace another: the definitions accept it, it is no dearer, and it keeps each bound that the other
-- keeps
pub record MayStandFor (source target : Matrix) (profile : Profile) (most : Bounds) (plan it : Plan) : Type 0 where
  pub accepted : IsAccepted source target it.commands profile it.energy it.steps
  pub energy : it.energy ≤ℤ plan.energy
  pub steps : plan.steps ≤ most.steps → it.steps ≤ most.steps
  pub commands : length plan.commands ≤ most.commands → length it.commands ≤ most.commands
  pub bytes : length (spellings plan.commands) ≤ most.bytes → length (spellings it.commands) ≤ most.bytes
  pub bots : HasAtMost source profile plan.commands most.bots → HasAtMost source profile it.commands most.bots

-- a plan that the definitions accept, of a source and for a profile with which others may be judged
pub record CanImprove (source target : Matrix) (profile : Profile) (plan : Plan) : Type 0 where
  pub grounded : FirstUngrounded source None
  pub resolution : source.resolution ≡ target.resolution
  pub seeds : profile.seeds ≤ 39
  pub accepted : IsAccepted source target plan.commands profile plan.energy plan.steps

-- the proposal is taken wherever the definitions accept it with less energy and within the bounds
abbrev pub IsChosen : Matrix → Matrix → Profile → Bounds → Plan → List Command → Plan → Type 0
IsChosen source target profile most plan proposal it =
    (energy : ℤ) (steps : ℕ) → IsAccepted source target proposal profile energy steps
    → IsBetter plan.energy most proposal energy steps → it.commands ≡ proposal
