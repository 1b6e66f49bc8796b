-- The outcome of a step: a broken rule or the next state (task description, section on execution; docs/FORMATS.md,
-- "Rules").
use Rattle.std.specs.Prelude.{◌≡◌, ℕ, List, Some, None}
use Rattle.vox_geom.specs.declared.coordinate.Coord.{Coord}
use Rattle.nano_spec.specs.declared.commands.Command.{Command}
use Rattle.nano_spec.specs.declared.outcomes.Broken.{Broken}
use Rattle.nano_spec.specs.declared.outcomes.Rule.TheVariants.{Ungrounded}
use Rattle.nano_spec.specs.declared.system.Harmonics.TheVariants.{Low}
use Rattle.nano_spec.specs.Grounded.{FirstUngrounded}
use Rattle.nano_spec.specs.Rules.{broken}
use Rattle.nano_spec.specs.State.{State}
use Rattle.nano_spec.specs.Step.{after}

-- a step is accepted, and this is the state after it, or it breaks a rule
pub data Outcome : Type 0 where
  Goes : State → Outcome
  Breaks : Broken → Outcome

-- the rule of grounding, which a step breaks at a coordinate and not at a bot
abbrev pub ungrounded_at : ℕ → Coord → Broken
ungrounded_at step c = record { step = step; bid = 0; rule = Ungrounded; at = c }

-- the outcome of the commands of a step
pub data Next (s : State) (commands : List Command) (step : ℕ) (outcome : Outcome) : Type 0 where
  -- they break a rule that is judged at its start
  breaks_at_start : (b : Broken) → broken s commands step ≡ Some b → outcome ≡ Breaks b → Next s commands step outcome
  -- they break none of these, but leave full voxels under Low that are not grounded: the least of them is reported
  leaves_floating : (c : Coord) → broken s commands step ≡ None → (after s commands).harmonics ≡ Low
      → FirstUngrounded (after s commands).matrix (Some c) → outcome ≡ Breaks (ungrounded_at step c)
      → Next s commands step outcome
  -- they break none, and under Low each full voxel is grounded afterwards
  accepts : broken s commands step ≡ None
      → ((after s commands).harmonics ≡ Low → FirstUngrounded (after s commands).matrix None)
      → outcome ≡ Goes (after s commands) → Next s commands step outcome
