use Rattle.std.proofs.Common.{◌≡◌, ◌+◌, sym, ◌∙◌, ap, arith, length}
use Rattle.step_machine.specs.Situation.{Situation}
use Rattle.step_machine.proofs.Answering.{made}
use Rattle.step_machine.proofs.Restoring.{not_made, refused_as_spent, refused_at_start, sound_put_back}
use Rattle.step_machine.proofs.Stepping.{formed_on, sound_on}
use Rattle.step_machine.proofs.Taking.{note_holds, note_may_undo, state_is_back}
use Rattle.step_machine.proofs.machine.Machine.step_noted.Goals as goal

pub returns-in-Some-clause-refused : goal.returns-in-Some-clause-refused
returns-in-Some-clause-refused g c =
    refused_at_start c.self.inside.system c.args.commands.now c.self.inside.steps c.self.inside.spent c.args.self.now c.self.view_is c.if-self.false c.args.steps.now
    c.in-Some.broken c.judge.new.steps (sym c.judge.ensures.value ∙ c.in-Some.is) (omega (arith, c.judge.ensures.touches)) c.judge.ensures.ends

pub returns-in-Err-clause-refused : goal.returns-in-Err-clause-refused
returns-in-Err-clause-refused g c =
    not_made c.self.inside.system c.args.commands.now c.self.inside.steps c.self.inside.spent c.args.self.now c.self.view_is c.if-self.false c.args.steps.now
    c.judge.new.steps (sym c.judge.ensures.value ∙ c.in_default.is) (omega (arith, c.judge.ensures.touches))
    c.in-Err.fault c.is_memory-self-inside.result c.is_memory-self-inside.ensures c.settle_noted.new.forest c.settle_noted.new.steps c.in-Err.ensures.restored

pub returns-clause-made : goal.returns-clause-made
returns-clause-made g c =
    made c.self.inside.system c.args.commands.now c.self.inside.steps c.self.inside.spent c.args.self.now c.self.view_is c.if-self.false c.args.steps.now
    c.judge.new.steps (sym c.judge.ensures.value ∙ c.in_default.is) (omega (arith, c.judge.ensures.touches))
    c.take_turns.new.system c.settle_noted.new.forest c.tell_made.result c.settle_noted.new.steps c.take_turns.new.steps c.in-Ok.ensures.settled c.take_turns.ensures.value c.tell_made.ensures.energy c.tell_made.ensures.halted
    (formed_on c.self.inside.system c.take_turns.new.system c.args.commands.now (c.self.inside.steps + 1) c.recall_step.ensures.well_formed c.in-Ok.ensures.settled.goes c.take_turns.ensures.value)
    c.take_turns.ensures.touches

pub returns-clause-voxels : goal.returns-clause-voxels
returns-clause-voxels g c =
    note_holds c.self.inside.system c.args.commands.now (c.self.inside.steps + 1) c.recall.ensures.ready (sym c.judge.ensures.value ∙ c.in_default.is) c.take_turns.new.system c.in-Ok.undo c.take_turns.ensures.value c.in-Ok.ensures.note

pub returns-clause-before : goal.returns-clause-before
returns-clause-before g c =
    state_is_back c.self.inside.system c.args.commands.now (c.self.inside.steps + 1) c.recall.ensures.ready (sym c.judge.ensures.value ∙ c.in_default.is) c.take_turns.new.system c.in-Ok.undo c.take_turns.ensures.value c.in-Ok.ensures.note
    ∙ ap (λ (v : Situation). v.state) c.self.view_is

pub returns-clause-undo : goal.returns-clause-undo
returns-clause-undo g c =
    note_may_undo c.self.inside.system c.args.commands.now (c.self.inside.steps + 1) c.recall.ensures.ready (sym c.judge.ensures.value ∙ c.in_default.is) c.take_turns.new.system c.in-Ok.undo c.take_turns.ensures.value c.in-Ok.ensures.note
    c.self.inside.forest c.self.inside.changed c.self.inside.steps c.self.inside.spent c.args.self.now c.self.invariant c.self.view_is (c.in-Ok.ensures.note.steps)

pub returns-then-self-clause-refused : goal.returns-then-self-clause-refused
returns-then-self-clause-refused g c = refused_as_spent c.args.self.now c.args.commands.now c.args.steps.now (sym (ap (λ (v : Situation). v.spent) c.self.view_is) ∙ c.if-self.true)

pub settle_noted-requires-clause-can : goal.settle_noted-requires-clause-can
settle_noted-requires-clause-can g c =
    let same : length c.args.commands.now ≡ length c.self.inside.system.bots = c.requires.commands ∙ ap (λ (v : Situation). length v.state.bots) (sym c.self.view_is) in
    record {
      judged = sym c.judge.ensures.value ∙ c.in_default.is;
      few = omega (arith, same);
      prepared = record {
        commands = c.recall_step.ensures.commands;
        turns = c.in_default.ensures.turns;
        room = c.self.invariant.room;
        stands = c.self.invariant.stands c.if-self.false;
        tied = c.self.invariant.tied c.if-self.false;
      };
    }

pub invariant_of-self-2 : goal.invariant_of-self-2
invariant_of-self-2 g c =
    let settled = c.in-Ok.ensures.settled in
    sound_on c.self.inside.system c.take_turns.new.system c.args.commands.now c.self.inside.forest c.settle_noted.new.forest c.self.inside.changed c.settle_noted.new.list c.self.inside.steps c.self.inside.spent c.args.self.now c.self.invariant c.self.view_is c.requires.steps
    c.take_turns.ensures.value settled.stands settled.tied c.settle_noted.ensures.room c.recall_step.ensures.rises c.recall_step.ensures.falls

pub invariant_of-self-in-Err : goal.invariant_of-self-in-Err
invariant_of-self-in-Err g c =
    sound_put_back c.self.inside.system c.args.commands.now (c.self.inside.steps + 1) c.in-Err.fault c.self.inside.forest c.settle_noted.new.forest c.self.inside.changed c.settle_noted.new.list c.self.inside.steps c.self.inside.spent c.is_memory-self-inside.result _ _
    c.self.invariant c.is_memory-self-inside.ensures c.in-Err.ensures.restored c.settle_noted.ensures.room

pub returns-clause-counted : goal.returns-clause-counted
returns-clause-counted g c =
    let steps = ap (λ (v : Situation). v.steps) c.self.view_is in
    let noted = c.in-Ok.ensures.note.steps in
    omega (arith, steps, noted)
