use Rattle.std.proofs.Common.{sym, ◌∙◌, ap, subst, true}
use Rattle.step_machine.specs.Situation.{Situation}
use Rattle.step_machine.specs.Undoing.{MayUndo, state_before}
use Rattle.step_machine.proofs.Taking.{gain_slice, lose_slice, sound_restored, touches_back}
use Rattle.step_machine.proofs.machine.Machine.restore.Goals as goal

pub forest_back-back-requires-clause-filled : goal.forest_back-back-requires-clause-filled
forest_back-back-requires-clause-filled g c = λ h.
    lose_slice c.self.inside.system c.args.undo.now c.self.inside.forest c.self.inside.changed c.self.inside.steps c.self.inside.spent c.args.self.now c.self.invariant c.self.view_is (sym (ap (λ (w : Situation). w.spent) c.self.view_is) ∙ h) c.requires
    c.as_slice-filled.result.now c.as_slice-filled.ensures

pub forest_back-back-requires-clause-voided : goal.forest_back-back-requires-clause-voided
forest_back-back-requires-clause-voided g c = λ h.
    gain_slice c.self.inside.system c.args.undo.now c.self.inside.forest c.self.inside.changed c.self.inside.steps c.self.inside.spent c.args.self.now c.self.invariant c.self.view_is (sym (ap (λ (w : Situation). w.spent) c.self.view_is) ∙ h) c.requires
    c.as_slice-filled.result.now c.as_slice-voided.result.now c.as_slice-filled.ensures c.as_slice-voided.ensures

pub put_back-requires : goal.put_back-requires
put_back-requires g c = subst (λ (w : Situation). MayUndo w.state c.args.undo.now) (sym c.self.view_is) c.requires

pub invariant_of-self : goal.invariant_of-self
invariant_of-self g c =
    sound_restored c.self.inside.system c.args.undo.now c.self.inside.forest c.self.inside.changed c.self.inside.steps c.self.inside.spent c.self.invariant (subst (λ (w : Situation). MayUndo w.state c.args.undo.now) (sym c.self.view_is) c.requires)
    c.put_back.new.system c.forest_back-back.new.forest true c.as_slice-filled.result.now c.as_slice-voided.result.now c.as_slice-filled.ensures c.as_slice-voided.ensures c.put_back.ensures
    (λ e. absurd (cc)) (λ e. absurd (cc)) (λ e. absurd (cc))

pub returns-clause-state : goal.returns-clause-state
returns-clause-state g c = c.put_back.ensures ∙ ap (λ (w : Situation). state_before w.state c.args.undo.now) c.self.view_is

pub invariant_of-self-in_default : goal.invariant_of-self-in_default
invariant_of-self-in_default g c =
    sound_restored c.self.inside.system c.args.undo.now c.self.inside.forest c.self.inside.changed c.self.inside.steps c.self.inside.spent c.self.invariant (subst (λ (w : Situation). MayUndo w.state c.args.undo.now) (sym c.self.view_is) c.requires)
    c.put_back.new.system c.forest_back-back.new.forest c.self.inside.spent c.as_slice-filled.result.now c.as_slice-voided.result.now c.as_slice-filled.ensures c.as_slice-voided.ensures c.put_back.ensures
    (λ h. h) c.in_default.ensures.stands c.in_default.ensures.value

pub returns-clause-touches : goal.returns-clause-touches
returns-clause-touches g c = λ h.
    touches_back c.self.inside.system c.args.undo.now c.self.inside.forest c.self.inside.changed c.self.inside.steps c.self.inside.spent c.args.self.now c.self.invariant c.self.view_is h c.requires
    c.as_slice-filled.result.now c.as_slice-voided.result.now c.args.steps.now c.forest_back-back.new.steps c.as_slice-filled.ensures c.as_slice-voided.ensures (c.in_default.ensures.touches (ap (λ (w : Situation). w.spent) c.self.view_is ∙ h))
