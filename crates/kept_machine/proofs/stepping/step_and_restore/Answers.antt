use Rattle.std.proofs.Common.{sym, subst}
use Rattle.std.specs.Prelude.{Err}
use Rattle.kept_machine.specs.declared.fault.NoStep.{NoStep}
use Rattle.kept_machine.specs.Calls.{WouldAnswer}
use Rattle.kept_machine.specs.Kept.{kept_of}
use Rattle.kept_machine.proofs.Changing.{told_noted}
use Rattle.kept_machine.proofs.Steps.{restored_so, would_make}
use Rattle.kept_machine.proofs.stepping.step_and_restore.Goals as goal

pub returns-in-Ok-clause-answer : goal.returns-in-Ok-clause-answer
returns-in-Ok-clause-answer g c = λ notes trace.
    would_make c.args.machine.now c.step_noted.new.self notes c.args.commands.now trace _ c.done-made.result c.args.steps.now c.step_noted.new.steps c.requires.can
    (told_noted c.args.machine.now.state c.step_noted.new.self.state c.in-Ok.undo c.matrix.result.now c.count_changed-changed.result c.done-made.result c.done-made.ensures.energy c.done-made.ensures.harmonics c.done-made.ensures.active c.done-made.ensures.changed c.count_changed-changed.ensures c.matrix.ensures.value c.in-Ok.ensures.before) c.in-Ok.ensures.made

pub returns-in-Err-clause-answer : goal.returns-in-Err-clause-answer
returns-in-Err-clause-answer g c = λ notes trace.
    subst (λ (r : NoStep). WouldAnswer (kept_of c.args.machine.now notes trace) c.args.commands.now (Err r)) (sym c.of.ensures) (
      kept_of c.step_noted.new.self notes trace,
      restored_so c.args.machine.now c.step_noted.new.self notes c.args.commands.now trace c.in-Err.fault c.args.steps.now c.step_noted.new.steps c.requires.can c.in-Err.ensures.refused,
    )
