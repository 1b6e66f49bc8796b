-- A fast path that was not applicable, before the step is made otherwise.
use Rattle.std.proofs.Common.{◌≡◌, inl, inr, ℕ, ◌+◌, ◌≤◌, ◌∙◌, ap, arith, List, Bool}
use Rattle.std.specs.Prelude.{None, Some}
use Rattle.nano_spec.specs.declared.commands.Command.{Command}
use Rattle.nano_spec.specs.declared.outcomes.Broken.{Broken}
use Rattle.nano_spec.specs.Rules.{broken}
use Rattle.nano_spec.specs.State.{State}
use Rattle.step_machine.specs.Settling.{IsDeclined}
use Rattle.step_machine.specs.Situation.{Situation}
use Rattle.step_machine.proofs.Stepping.{seen}

pub declined_few : (s : State) (commands : List Command) (step began ended : ℕ) → IsDeclined s commands step began ended
    → ended ≤ began + 9
declined_few s commands step began ended (inl e) = omega arith
declined_few s commands step began ended (inr h) = h.1

-- if a rule is broken at the step's start, nothing was touched
pub declined_broken : (s : State) (commands : List Command) (steps : ℕ) (spent : Bool) (v : Situation)
    → seen s steps spent ≡ v → (began ended : ℕ) (b : Broken) → broken s commands (steps + 1) ≡ Some b
    → IsDeclined v.state commands (v.steps + 1) began ended → ended ≡ began
declined_broken s commands steps spent v e began ended b breaks (inl h) = h
declined_broken s commands steps spent v e began ended b breaks (inr h) =
    let none : broken s commands (steps + 1) ≡ None = ap (λ (w : Situation). broken w.state commands (w.steps + 1)) e ∙ h.0 in
    cc
