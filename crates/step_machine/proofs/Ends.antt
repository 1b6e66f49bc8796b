-- Each end of a call has one answer: stated once, so that the search need not find it in each clause of each end.
use Rattle.std.proofs.Common.{◌≡◌, ℕ, List, [], ◌∷◌, false, true, ap, arith, get_or, length, subst, sym}
use Rattle.std.specs.Prelude.{ℤ, Result, Ok, Err}
use Rattle.nano_spec.specs.declared.commands.Command.{Command}
use Rattle.nano_spec.specs.declared.outcomes.Broken.{Broken}
use Rattle.step_machine.specs.Alone.{IsTried}
use Rattle.step_machine.specs.Edits.{is_edit}
use Rattle.step_machine.specs.Situation.{Situation}
use Rattle.step_machine.specs.Stepped.{Stepped, answer_of}
use Rattle.step_machine.specs.declared.machine.StepFault.{StepFault}
use Rattle.step_machine.specs.declared.machine.StepFault.TheVariants as fault
use Rattle.step_machine.specs.declared.machine.StepFault.TheVariants.{Memory}
use Rattle.step_machine.specs.declared.machine.StepOk.{StepOk}
use Rattle.step_machine.specs.declared.machine.alone.Tried.TheVariants as tried

pub declined_made : {A : Type 0} → tried.Declined ≡ tried.Made → A
declined_made e = cc

declined_refused : {A : Type 0} → tried.Declined ≡ tried.Refused → A
declined_refused e = cc

made_refused : {A : Type 0} → tried.Made ≡ tried.Refused → A
made_refused e = cc

made_declined : {A : Type 0} → tried.Made ≡ tried.Declined → A
made_declined e = cc

pub refused_made : {A : Type 0} → tried.Refused ≡ tried.Made → A
refused_made e = cc

refused_declined : {A : Type 0} → tried.Refused ≡ tried.Declined → A
refused_declined e = cc

-- attempts that made the step, refused it, or were not applicable
module _ {old new : Situation} {command : Command} {fault : StepFault} {began ended : ℕ} where
  pub is_made : Stepped old new (command ∷ []) (answer_of true new.state fault) began ended
      → IsTried old new command tried.Made fault began ended
  is_made s = record { made = λ _. s; refused = made_refused; memory = λ e _. made_refused e; stays = made_declined; untouched = made_declined }

  pub is_refused : Stepped old new (command ∷ []) (Err fault) began ended → (fault ≡ Memory → is_edit command ≡ true)
      → IsTried old new command tried.Refused fault began ended
  is_refused s m = record { made = refused_made; refused = λ _. s; memory = λ _. m; stays = refused_declined; untouched = refused_declined }

  pub is_declined : new ≡ old → ended ≡ began → IsTried old new command tried.Declined fault began ended
  is_declined n e = record { made = declined_made; refused = declined_refused; memory = λ f _. declined_refused f; stays = λ _. n; untouched = λ _. e }

-- another answer means that no allocation failed
pub spent_memory : {A : Type 0} → ◌≡◌ {A = Result StepOk StepFault} (Err fault.Spent) (Err fault.Memory) → A
spent_memory e = cc

pub broken_memory : {A : Type 0} (b : Broken)
    → ◌≡◌ {A = Result StepOk StepFault} (Err (fault.Broken b)) (Err fault.Memory) → A
broken_memory b e = cc

pub made_memory : {A : Type 0} (ok : StepOk) → ◌≡◌ {A = Result StepOk StepFault} (Ok ok) (Err fault.Memory) → A
made_memory ok e = cc

pub same_fault : (f g : StepFault) → ◌≡◌ {A = Result StepOk StepFault} (Err f) (Err g) → f ≡ g
same_fault f g e = cc

-- a list of one command is that command
pub only_command : (commands : List Command) (command : Command) → length commands ≡ 1
    → command ≡ get_or commands 0 command → commands ≡ command ∷ []
only_command [] command l e = absurd (omega arith)
only_command (k ∷ []) command l e = ap (λ (c : Command). c ∷ []) (sym e)
only_command (k ∷ m ∷ more) command l e = absurd (omega arith)

-- the effect of the only bot's step, as the answer to the commands of a step
pub made_alone : (old new : Situation) (commands : List Command) (command : Command) (energy : ℤ) (fault : StepFault)
    (began ended : ℕ) → commands ≡ command ∷ [] → energy ≡ new.state.energy
    → Stepped old new (command ∷ []) (answer_of true new.state fault) began ended
    → Stepped old new commands (Ok (record { energy = energy; halted = false })) began ended
made_alone old new commands command energy fault began ended one paid made =
    subst (λ (ks : List Command). Stepped old new ks (Ok (record { energy = energy; halted = false })) began ended) (sym one)
    (subst (λ (z : ℤ). Stepped old new (command ∷ []) (Ok (record { energy = z; halted = false })) began ended) (sym paid) made)
