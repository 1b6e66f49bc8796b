use Rattle.std.proofs.Common.{◌≡◌, ◌∙◌, refl, sym, ap, subst, rules}
use Rattle.std.specs.Prelude.{None}
use Rattle.circular_buffer.specs.Buffer.{last_item}
use Rattle.nano_spec.specs.Matrix.{Matrix}
use Rattle.nano_spec.specs.State.{State}
use Rattle.step_machine.specs.Undoing.{HaveChanged, matrix_before}
use Rattle.kept_machine.specs.Aiming.{IsTargetCounted}
use Rattle.kept_machine.specs.Kept.{instant_of, instants_of}
use Rattle.kept_machine.proofs.Notes.{none_last}
use Rattle.kept_machine.proofs.Steps.{kept_back, may_go_back, taken_back}
use Rattle.kept_machine.proofs.stepping.take_back.Goals as goal

pub returns-in_default-clause-back : goal.returns-in_default-clause-back
returns-in_default-clause-back g c = λ trace.
    let none : last_item c.args.notes.now.items ≡ None = search rules in
    (refl, ap (instants_of (instant_of c.args.machine.now)) (none_last c.args.notes.now.items none))

pub restore-requires : goal.restore-requires
restore-requires g c = may_go_back c.args.machine.now c.args.machine.now c.args.notes.now c.args.notes.now c.in-Some.undo.now c.requires.kept (sym c.in-Some.ensures)

pub returns-clause-kept : goal.returns-clause-kept
returns-clause-kept g c =
    kept_back c.args.machine.now c.restore.new.self c.args.notes.now c.pop_back.new.self c.in-Some.undo.now c.requires.kept (sym c.in-Some.ensures) c.restore.ensures.state c.restore.ensures.steps c.pop_back.ensures.items

pub returns-clause-back : goal.returns-clause-back
returns-clause-back g c = λ trace.
    taken_back c.args.machine.now c.restore.new.self c.args.notes.now c.pop_back.new.self c.in-Some.undo.now c.requires.kept (sym c.in-Some.ensures) c.restore.ensures.state c.restore.ensures.steps c.pop_back.ensures.items trace

pub count_undo-requires-clause-changed : goal.count_undo-requires-clause-changed
count_undo-requires-clause-changed g c =
    let may = may_go_back c.args.machine.now c.args.machine.now c.args.notes.now c.args.notes.now c.in-Some.undo.now c.requires.kept (sym c.in-Some.ensures) in
    subst (λ (m : Matrix). HaveChanged m c.in-Some.undo.now) (sym c.matrix.ensures.value) may.voxels

pub returns-clause-aimed : goal.returns-clause-aimed
returns-clause-aimed g c =
    let is : matrix_before c.matrix.result.now c.in-Some.undo.now.filled.items c.in-Some.undo.now.voided.items ≡ c.restore.new.self.state.matrix =
    ap (λ (m : Matrix). matrix_before m c.in-Some.undo.now.filled.items c.in-Some.undo.now.voided.items) c.matrix.ensures.value ∙ sym (ap (λ (s : State). s.matrix) c.restore.ensures.state) in
    subst (λ (m : Matrix). IsTargetCounted m c.count_undo.new.aim) is c.count_undo.ensures.before
