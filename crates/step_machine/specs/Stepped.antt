-- Answer and effect of a call that makes a step.
use Rattle.std.specs.Prelude.{◌≡◌, ℕ, ◌+◌, ◌*◌, ◌≤◌, ◌↔◌, Bool, List, [], true, false, Result, Ok, Err, IfOk, IfErr}
use Rattle.nano_spec.specs.declared.commands.Command.{Command}
use Rattle.nano_spec.specs.declared.outcomes.Rule.TheVariants.{Ungrounded}
use Rattle.nano_spec.specs.Next.{Breaks, Goes, Next}
use Rattle.nano_spec.specs.State.{IsWellFormed, State}
use Rattle.nano_spec.specs.Work.{WorkOfStep}
use Rattle.step_machine.specs.declared.machine.StepOk.{StepOk}
use Rattle.step_machine.specs.declared.machine.StepFault.{StepFault}
use Rattle.step_machine.specs.declared.machine.StepFault.TheVariants as fault
use Rattle.step_machine.specs.Situation.{IfBroken, Situation, searched_for}

-- the touches from began to ended are within the work of the step: at most a hundred for each unit of it
abbrev pub IsWithinWork : State → List Command → ℕ → ℕ → ℕ → Type 0
IsWithinWork s commands step began ended = (n : ℕ) × WorkOfStep s commands step n × (ended ≤ began + 100 * n)

-- the answer to a step: made, to a state that may have no bots left, or refused for the fault
abbrev pub answer_of : Bool → State → StepFault → Result StepOk StepFault
answer_of true s fault = Ok (record { energy = s.energy; halted = false })
answer_of false s fault = Err fault

-- a call that makes a step: the situations before and after, the commands, the answer, and the number of touches at the call's
-- begin and end
pub record Stepped (old new : Situation) (commands : List Command) (answer : Result StepOk StepFault) (began ended : ℕ)
    : Type 0 where
  -- a step that is accepted leads to the definition's state and is counted
  pub goes : IfOk answer (λ _. Next old.state commands (old.steps + 1) (Goes new.state))
  pub counted : IfOk answer (λ _. new.steps ≡ old.steps + 1)
  -- the answer has the energy so far, and whether no bot is left
  pub energy : IfOk answer (λ ok. ok.energy ≡ new.state.energy)
  pub halted : IfOk answer (λ ok. ok.halted ≡ true ↔ new.state.bots ≡ [])
  -- it leads from a well-formed state to another
  pub well_formed : IfOk answer (λ _. IsWellFormed old.state → IsWellFormed new.state)
  -- a step that is refused breaks the definition's rule
  pub breaks : IfBroken answer (λ b. (old.spent ≡ false) × Next old.state commands (old.steps + 1) (Breaks b))
  -- after every other answer state and steps are as before
  pub stays : IfErr answer (λ _. (new.state ≡ old.state) × (new.steps ≡ old.steps))
  -- a machine is poisoned exactly after a step that broke the rule of grounding or ran out of memory; it answers `Spent` only
  -- then
  pub stands : IfOk answer (λ _. (old.spent ≡ false) × (new.spent ≡ false))
  pub ungrounded : IfBroken answer (λ b. new.spent ≡ true ↔ b.rule ≡ Ungrounded)
  pub memory : answer ≡ Err fault.Memory → new.spent ≡ true
  pub spent : answer ≡ Err fault.Spent ↔ old.spent ≡ true
  pub stays_spent : old.spent ≡ true → new.spent ≡ true
  -- at most a hundred touches for each unit of the step's work, and each voxel once more if it breaks the rule of
  -- grounding
  pub touches : IfOk answer (λ _. IsWithinWork old.state commands (old.steps + 1) began ended)
  pub touches_broken : IfBroken answer
      (λ b. IsWithinWork old.state commands (old.steps + 1) (began + searched_for b.rule old.state.matrix) ended)
