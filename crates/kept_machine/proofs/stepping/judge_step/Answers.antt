use Rattle.std.proofs.Common.{◌≡◌, refl, sym, subst, rules}
use Rattle.std.specs.Prelude.{Result, Err}
use Rattle.kept_machine.specs.declared.done.StepDone.{StepDone}
use Rattle.kept_machine.specs.declared.fault.NoStep.{NoStep}
use Rattle.kept_machine.specs.declared.fault.NoStep.TheVariants as no_step
use Rattle.kept_machine.specs.Calls.{WouldAnswer}
use Rattle.kept_machine.specs.Kept.{Kept, kept_of}
use Rattle.kept_machine.proofs.Standing.{anew_looks_the_same}
use Rattle.kept_machine.proofs.Steps.{cannot_so}
use Rattle.kept_machine.proofs.stepping.judge_step.Goals as goal

pub returns-in_err-ready-clause-answer : goal.returns-in_err-ready-clause-answer
returns-in_err-ready-clause-answer g c = λ notes trace.
    let is : c.from_residual.result ≡ Err c.in_err-ready.field-0.0 = search rules in
    subst (λ (r : Result StepDone NoStep). WouldAnswer (kept_of c.args.machine.now notes trace) c.args.commands.now r) (sym is)
    (kept_of c.args.machine.now notes trace, cannot_so (kept_of c.args.machine.now notes trace) c.args.machine.now notes trace c.args.commands.now c.in_err-ready.field-0.0 refl c.in_err-ready.ensures.cannot)

pub returns-in_err-stand_again-clause-answer : goal.returns-in_err-stand_again-clause-answer
returns-in_err-stand_again-clause-answer g c = λ notes trace.
    let is : c.from_residual-in_err-stand_again.result ≡ Err no_step.Memory = search rules in
    subst (λ (r : Result StepDone NoStep). WouldAnswer (kept_of c.args.machine.now notes trace) c.args.commands.now r) (sym is)
    (kept_of c.args.machine.now notes trace, refl)

pub returns-clause-answer : goal.returns-clause-answer
returns-clause-answer g c = λ notes trace.
    subst (λ (k : Kept). WouldAnswer k c.args.commands.now c.step_and_restore.result) (anew_looks_the_same c.args.machine.now c.stand_again.new.machine notes c.in_ok-stand_again.ensures.value trace)
    (c.step_and_restore.ensures.answer notes trace)
