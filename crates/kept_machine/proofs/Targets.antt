-- The same calls of a machine that has a target as well.
use Rattle.std.proofs.Common.{refl, ap, List, Option, Bool, true, false}
use Rattle.std.specs.Prelude.{Result, Ok, Err}
use Rattle.nano_spec.specs.declared.commands.Command.{Command}
use Rattle.nano_spec.specs.Matrix.{Matrix}
use Rattle.kept_machine.specs.declared.done.StepDone.{StepDone}
use Rattle.kept_machine.specs.declared.fault.NoStep.{NoStep}
use Rattle.kept_machine.specs.declared.fault.NoStep.TheVariants as no_step
use Rattle.kept_machine.specs.Calls.{Tries, Undoes, WouldAnswer}
use Rattle.kept_machine.specs.Kept.{Kept}

-- a machine with this target in place of its own
abbrev pub aimed_at : Option Matrix → Kept → Kept
aimed_at target k = record k { target = target }

module _ (target : Option Matrix) (old new : Kept) where
  pub tries_aimed : (commands : List Command) (answer : Result StepDone NoStep) → Tries old commands new answer
      → Tries (aimed_at target old) commands (aimed_at target new) answer
  tries_aimed commands (Ok made) h = record {
    some = h.some;
    each = h.each;
    goes = h.goes;
    counted = h.counted;
    past = h.past;
    room = h.room;
    trace = h.trace;
    target = refl;
    tells = h.tells;
  }
  tries_aimed commands (Err (no_step.Broken b)) h = (ap (aimed_at target) h.0, h.1, h.2)
  tries_aimed commands (Err no_step.Ended) h = (ap (aimed_at target) h.0, h.1)
  tries_aimed commands (Err no_step.Count) h = (ap (aimed_at target) h.0, h.1, h.2)
  tries_aimed commands (Err no_step.Long) h = (ap (aimed_at target) h.0, h.1, h.2, h.3)
  tries_aimed commands (Err no_step.Memory) h = ap (aimed_at target) h

  pub undoes_aimed : (answer : Bool) → Undoes old new answer → Undoes (aimed_at target old) (aimed_at target new) answer
  undoes_aimed true h = record { past = h.past; room = h.room; trace = h.trace; target = refl }
  undoes_aimed false h = (ap (aimed_at target) h.0, h.1)

pub would_aimed : (target : Option Matrix) (k : Kept) (commands : List Command) (answer : Result StepDone NoStep)
    → WouldAnswer k commands answer → WouldAnswer (aimed_at target k) commands answer
would_aimed target k commands answer h = (aimed_at target h.0, tries_aimed target k h.0 commands answer h.1)
