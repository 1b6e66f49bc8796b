-- A step with a note, which is undone at once if a voxel would float.
use Rattle.std.specs.Prelude.{◌≡◌, ℕ, List, true, false, Err}
use Rattle.nano_spec.specs.declared.commands.Command.{Command}
use Rattle.nano_spec.specs.declared.outcomes.Broken.{Broken}
use Rattle.nano_spec.specs.declared.outcomes.Rule.{Rule}
use Rattle.nano_spec.specs.declared.outcomes.Rule.TheVariants.{Ungrounded}
use Rattle.nano_spec.specs.State.{State}
use Rattle.nano_spec.specs.Step.{after}
use Rattle.support_forest.specs.ForestView.{ForestView}
use Rattle.step_machine.specs.declared.machine.StepOk.{StepOk}
use Rattle.step_machine.specs.declared.machine.StepFault.{StepFault}
use Rattle.step_machine.specs.declared.machine.StepFault.TheVariants as fault
use Rattle.step_machine.specs.Edits.{edits_of}
use Rattle.step_machine.specs.Settling.{IsFloating}
use Rattle.step_machine.specs.Situation.{IfBroken, Situation}
use Rattle.step_machine.specs.Stepped.{Stepped}
use Rattle.step_machine.specs.Undoing.{IsUndoneBy}

-- the touches of the undo of a step's changes
abbrev pub IsTakenBackBy : State → List Command → ℕ → ℕ → Type 0
IsTakenBackBy s commands began ended =
    IsUndoneBy (after s commands).matrix (edits_of s commands false) (edits_of s commands true) began ended

-- the touches of the undo after a broken rule: only a step that breaks the rule of grounding has changes to undo
abbrev pub IsTakenBackAfter : Rule → State → List Command → ℕ → ℕ → Type 0
IsTakenBackAfter Ungrounded s commands began ended = IsTakenBackBy s commands began ended
IsTakenBackAfter rule s commands began ended = ended ≡ began

-- the step breaks the rule of grounding, and the forest is again that of the state
pub record IsFloatRestored (s : State) (commands : List Command) (step : ℕ) (b : Broken) (forest : ForestView) (began ended : ℕ)
    : Type 0 where
  pub judged : ℕ
  pub floats : IsFloating s commands step b began judged
  pub tied : forest.matrix ≡ s.matrix
  pub stands : forest.spent ≡ false
  pub back : IsTakenBackBy s commands judged ended

-- the step is not made: it breaks the rule of grounding and is undone, or allocation fails
abbrev pub IsRestored : State → List Command → ℕ → StepFault → ForestView → ℕ → ℕ → Type 0
IsRestored s commands step (fault.Broken b) forest began ended = IsFloatRestored s commands step b forest began ended
IsRestored s commands step fault.Memory forest began ended = Unit {0}
IsRestored s commands step fault.Spent forest began ended = ⊥

-- a step that is not made: it has the answer of `step`, which may leave a poisoned machine, and then its changes are undone
pub record IsNotMade (old new : Situation) (commands : List Command) (f : StepFault) (began ended : ℕ) : Type 0 where
  pub left : Situation
  pub judged : ℕ
  pub stepped : Stepped old left commands (Err f) began judged
  -- a step that breaks a rule, that of grounding too, leaves the machine as it was
  pub broken : IfBroken {T = StepOk} (Err f) (λ b. new ≡ old)
  -- exactly a failed allocation poisons it, in the state that it had
  pub memory : f ≡ fault.Memory → new ≡ record old { spent = true }
  pub spent : f ≡ fault.Spent → new ≡ old
  pub back : IfBroken {T = StepOk} (Err f) (λ b. IsTakenBackAfter b.rule old.state commands judged ended)
