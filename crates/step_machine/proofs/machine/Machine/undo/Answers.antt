use Rattle.std.proofs.Common.{ap, true}
use Rattle.step_machine.specs.Situation.{Situation}
use Rattle.step_machine.proofs.Stepping.{sound_spent}
use Rattle.step_machine.proofs.Taking.{gain_slice, sound_back, touches_back, value_back}
use Rattle.step_machine.proofs.machine.Machine.undo.Goals as goal

pub refit_back-requires-clause-voided : goal.refit_back-requires-clause-voided
refit_back-requires-clause-voided g c =
    gain_slice c.self.inside.system c.args.undo.now c.self.inside.forest c.self.inside.changed c.self.inside.steps c.self.inside.spent c.args.self.now c.self.invariant c.self.view_is c.requires.stands c.requires.may
    c.as_slice-filled.result.now c.as_slice-voided.result.now c.as_slice-filled.ensures c.as_slice-voided.ensures

pub invariant_of-self-2 : goal.invariant_of-self-2
invariant_of-self-2 g c =
    sound_back c.self.inside.system c.args.undo.now c.self.inside.forest c.self.inside.changed c.self.inside.steps c.self.inside.spent c.args.self.now c.self.invariant c.self.view_is c.requires.stands c.requires.may
    c.put_back.new.system c.refit_back.new.forest c.as_slice-filled.result.now c.as_slice-voided.result.now c.as_slice-filled.ensures c.as_slice-voided.ensures c.put_back.ensures c.in-Ok.ensures.stands c.in-Ok.ensures.value

pub returns-clause-value : goal.returns-clause-value
returns-clause-value g c =
    value_back c.self.inside.system c.args.undo.now c.self.inside.forest c.self.inside.changed c.self.inside.steps c.self.inside.spent c.args.self.now c.self.invariant c.self.view_is c.requires.stands c.requires.may
    c.put_back.new.system c.put_back.ensures

pub returns-clause-touches : goal.returns-clause-touches
returns-clause-touches g c =
    touches_back c.self.inside.system c.args.undo.now c.self.inside.forest c.self.inside.changed c.self.inside.steps c.self.inside.spent c.args.self.now c.self.invariant c.self.view_is c.requires.stands c.requires.may
    c.as_slice-filled.result.now c.as_slice-voided.result.now c.args.steps.now c.refit_back.new.steps c.as_slice-filled.ensures c.as_slice-voided.ensures c.in-Ok.ensures.touches

pub invariant_of-self : goal.invariant_of-self
invariant_of-self g c = sound_spent c.self.inside.system c.self.inside.forest c.refit_back.new.forest c.self.inside.changed c.self.inside.changed c.self.inside.steps c.self.inside.spent c.self.invariant c.self.invariant.room

pub returns-in-Err-clause-memory : goal.returns-in-Err-clause-memory
returns-in-Err-clause-memory g c = ap (λ (v : Situation). record v { spent = true }) c.self.view_is
