use Rattle.std.proofs.Common.{subst}
use Rattle.kept_machine.specs.Calls.{Tries}
use Rattle.kept_machine.specs.Kept.{Kept, kept_of, tried}
use Rattle.kept_machine.proofs.Standing.{anew_looks_the_same}
use Rattle.kept_machine.proofs.stepping.try_step.Goals as goal

pub returns-then-capacity-gt0-clause-tries : goal.returns-then-capacity-gt0-clause-tries
returns-then-capacity-gt0-clause-tries g c = λ trace.
    subst (λ (k : Kept). Tries k c.args.commands.now (kept_of c.step_and_note.new.machine c.step_and_note.new.notes (tried trace c.args.commands.now c.step_and_note.result)) c.step_and_note.result)
    (anew_looks_the_same c.args.machine.now c.stand_again.new.machine c.args.notes.now c.in_ok-stand_again.ensures.value trace) (c.step_and_note.ensures.tries trace)

pub returns-clause-tries : goal.returns-clause-tries
returns-clause-tries g c = λ trace.
    subst (λ (k : Kept). Tries k c.args.commands.now (kept_of c.step_unnoted.new.machine c.step_unnoted.new.notes (tried trace c.args.commands.now c.step_unnoted.result)) c.step_unnoted.result)
    (anew_looks_the_same c.args.machine.now c.stand_again.new.machine c.args.notes.now c.in_ok-stand_again.ensures.value trace) (c.step_unnoted.ensures.tries trace)
