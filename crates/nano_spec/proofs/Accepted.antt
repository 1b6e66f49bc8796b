-- The facts of a step that is accepted.
use Rattle.std.proofs.Common.{◌≡◌, ℕ, List}
use Rattle.std.specs.Prelude.{None}
use Rattle.nano_spec.specs.declared.commands.Command.{Command}
use Rattle.nano_spec.specs.declared.system.Harmonics.TheVariants.{Low}
use Rattle.nano_spec.specs.Grounded.{FirstUngrounded}
use Rattle.nano_spec.specs.Next.{Next, Goes, accepts, breaks_at_start, leaves_floating}
use Rattle.nano_spec.specs.Rules.{broken}
use Rattle.nano_spec.specs.State.{State}
use Rattle.nano_spec.specs.Step.{after}

-- the commands break no rule at the start of the step, and t is the state after them, which is grounded under Low
pub record IsAccepted (s t : State) (commands : List Command) (step : ℕ) : Type 0 where
  pub keeps : broken s commands step ≡ None
  pub is : t ≡ after s commands
  pub grounded : (after s commands).harmonics ≡ Low → FirstUngrounded (after s commands).matrix None

pub accepted_step : (s t : State) (commands : List Command) (step : ℕ) → Next s commands step (Goes t)
    → IsAccepted s t commands step
accepted_step s t commands step (breaks_at_start b f e) = cc
accepted_step s t commands step (leaves_floating c keeps low f e) = cc
accepted_step s t commands step (accepts keeps grounded e) = record { keeps = keeps; is = cc; grounded = grounded }
