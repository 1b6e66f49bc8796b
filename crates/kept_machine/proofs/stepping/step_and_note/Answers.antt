use Rattle.std.proofs.Common.{◌≡◌, ◌∙◌, ap, sym, subst}
use Rattle.std.specs.Prelude.{Err}
use Rattle.nano_spec.specs.Matrix.{Matrix}
use Rattle.nano_spec.specs.State.{State}
use Rattle.step_machine.specs.Undoing.{matrix_before}
use Rattle.kept_machine.specs.Aiming.{IsTargetCounted}
use Rattle.kept_machine.specs.declared.fault.NoStep.{NoStep}
use Rattle.kept_machine.specs.Calls.{Tries}
use Rattle.kept_machine.specs.Kept.{kept_of}
use Rattle.kept_machine.proofs.Changing.{told_noted}
use Rattle.kept_machine.proofs.Steps.{kept_noted, made_noted, restored_so}
use Rattle.kept_machine.proofs.stepping.step_and_note.Goals as goal

pub count_step-requires-clause-before : goal.count_step-requires-clause-before
count_step-requires-clause-before g c =
    let was : c.args.machine.now.state.matrix ≡ matrix_before c.matrix-in-Ok.result.now c.in-Ok.undo.filled.items c.in-Ok.undo.voided.items =
    sym (ap (λ (s : State). s.matrix) c.in-Ok.ensures.before) ∙ ap (λ (m : Matrix). matrix_before m c.in-Ok.undo.filled.items c.in-Ok.undo.voided.items) (sym c.matrix-in-Ok.ensures.value) in
    subst (λ (m : Matrix). IsTargetCounted m c.args.aim.now) was c.requires.aimed

pub returns-in-Ok-clause-kept : goal.returns-in-Ok-clause-kept
returns-in-Ok-clause-kept g c =
    kept_noted c.args.machine.now c.step_noted.new.self c.args.notes.now c.push_back.new.self c.args.commands.now c.in-Ok.undo _ c.done.result c.args.steps.now c.step_noted.new.steps
    c.requires.kept (told_noted c.args.machine.now.state c.step_noted.new.self.state c.in-Ok.undo c.matrix.result.now c.count_changed-changed.result c.done.result c.done.ensures.energy c.done.ensures.harmonics c.done.ensures.active c.done.ensures.changed c.count_changed-changed.ensures c.matrix.ensures.value c.in-Ok.ensures.before) c.in-Ok.ensures.made c.in-Ok.ensures.before c.in-Ok.ensures.counted c.in-Ok.ensures.undo c.push_back.ensures.items

pub returns-in-Ok-clause-tries : goal.returns-in-Ok-clause-tries
returns-in-Ok-clause-tries g c = λ trace.
    made_noted c.args.machine.now c.step_noted.new.self c.args.notes.now c.push_back.new.self c.args.commands.now c.in-Ok.undo _ c.done.result c.args.steps.now c.step_noted.new.steps
    c.requires.kept (told_noted c.args.machine.now.state c.step_noted.new.self.state c.in-Ok.undo c.matrix.result.now c.count_changed-changed.result c.done.result c.done.ensures.energy c.done.ensures.harmonics c.done.ensures.active c.done.ensures.changed c.count_changed-changed.ensures c.matrix.ensures.value c.in-Ok.ensures.before) c.in-Ok.ensures.made c.in-Ok.ensures.before c.in-Ok.ensures.counted c.in-Ok.ensures.undo c.push_back.ensures.items c.requires.can trace

pub returns-in-Err-clause-tries : goal.returns-in-Err-clause-tries
returns-in-Err-clause-tries g c = λ trace.
    subst (λ (r : NoStep). Tries (kept_of c.args.machine.now c.args.notes.now trace) c.args.commands.now (kept_of c.step_noted.new.self c.args.notes.now trace) (Err r)) (sym c.of.ensures)
    (restored_so c.args.machine.now c.step_noted.new.self c.args.notes.now c.args.commands.now trace c.in-Err.fault c.args.steps.now c.step_noted.new.steps c.requires.can c.in-Err.ensures.refused)
