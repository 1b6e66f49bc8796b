-- The step to judge (docs/FORMATS.md, "Rules").
use Rattle.std.specs.Prelude.{◌≡◌, ℕ, ℤ, List, length, Option, All}
use Rattle.vox_geom.specs.Space.{IsInSpace}
use Rattle.nano_spec.specs.declared.commands.Command.{Command}
use Rattle.nano_spec.specs.declared.outcomes.Broken.{Broken}
use Rattle.nano_spec.specs.declared.system.Bot.{Bot}
use Rattle.nano_spec.specs.declared.system.Harmonics.{Harmonics}
use Rattle.nano_spec.specs.declared.system.Profile.{Profile}
use Rattle.nano_spec.specs.Act.{Act, acts}
use Rattle.nano_spec.specs.Matrix.{Matrix}
use Rattle.nano_spec.specs.Rules.{broken}
use Rattle.nano_spec.specs.State.{State}
use Rattle.bot_crew.specs.Crew.{IsCrew}
use Rattle.step_groups.specs.declared.step.Step.{Step}
use Rattle.step_groups.specs.Judging.{first_fault, later_rules, start_of}

-- the bots are a crew in space, and each has a command
pub record CanBeJudged (step : Step) : Type 0 where
  pub crew : IsCrew step.bots.now
  pub within : All (λ b. IsInSpace step.planes.now.resolution b.pos) step.bots.now
  pub lengths : length step.commands.now ≡ length step.bots.now

-- one of the bots is in space, and each has a command
pub record CanJudge (step : Step) (bot : Bot) : Type 0 where
  pub within : IsInSpace step.planes.now.resolution bot.pos
  pub lengths : length step.commands.now ≡ length step.bots.now

-- the bots with their commands
abbrev pub acts_of_step : Step → List Act
acts_of_step step = acts step.bots.now step.commands.now

-- the state at the step's start, as far as the rules need it: without the energy
abbrev pub start_of_step : Step → State
start_of_step step = start_of step.planes.now step.harmonics step.profile step.bots.now

-- the first rule after the one on the profile that a bot breaks
abbrev pub later_fault : Step → Act → Option Broken
later_fault step a = first_fault (start_of_step step) (acts_of_step step) step.number a later_rules

-- the first rule that a step of these parts breaks
abbrev pub first_broken : Matrix → Harmonics → Profile → List Bot → List Command → ℕ → ℤ → Option Broken
first_broken matrix harmonics profile bots commands step energy =
    broken (record (start_of matrix harmonics profile bots) { energy = energy }) commands step

-- the first rule that the step breaks, at this energy at its start
abbrev pub broken_in : Step → ℤ → Option Broken
broken_in step energy =
    first_broken step.planes.now step.harmonics step.profile step.bots.now step.commands.now step.number energy
