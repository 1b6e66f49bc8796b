-- Steps of the only bot, and the outcome of an attempt.
use Rattle.std.specs.Prelude.{◌≡◌, ℕ, [], ◌∷◌, true, false, length, None, Err}
use Rattle.nano_spec.specs.declared.commands.Command.{Command}
use Rattle.nano_spec.specs.declared.system.Harmonics.TheVariants.{Low}
use Rattle.nano_spec.specs.Grounded.{FirstUngrounded}
use Rattle.step_machine.specs.declared.machine.StepFault.{StepFault}
use Rattle.step_machine.specs.declared.machine.StepFault.TheVariants.{Memory}
use Rattle.step_machine.specs.declared.machine.alone.Tried.{Tried}
use Rattle.step_machine.specs.declared.machine.alone.Tried.TheVariants.{Made, Refused, Declined}
use Rattle.step_machine.specs.Edits.{is_edit}
use Rattle.step_machine.specs.Situation.{Situation}
use Rattle.step_machine.specs.Stepped.{Stepped, answer_of}

-- the machine is not poisoned, one bot is left, and each full voxel is grounded if the harmonics require it
pub record IsSolo (m : Situation) : Type 0 where
  pub stands : m.spent ≡ false
  pub one : length m.state.bots ≡ 1
  pub held : m.state.harmonics ≡ Low → FirstUngrounded m.state.matrix None

-- an attempt at a step by the command: made, refused for the fault, or not applicable, which changes and touches
-- nothing
pub record IsTried (old new : Situation) (command : Command) (answer : Tried) (fault : StepFault) (began ended : ℕ)
    : Type 0 where
  pub made : answer ≡ Made → Stepped old new (command ∷ []) (answer_of true new.state fault) began ended
  pub refused : answer ≡ Refused → Stepped old new (command ∷ []) (Err fault) began ended
  -- allocation may fail only if the command fills or voids
  pub memory : answer ≡ Refused → fault ≡ Memory → is_edit command ≡ true
  pub stays : answer ≡ Declined → new ≡ old
  pub untouched : answer ≡ Declined → ended ≡ began
