use Rattle.std.proofs.Common.{◌+◌, ◌≤◌, arith, sym, ◌∙◌, ap, subst, length}
use Rattle.step_machine.proofs.Answering.{already_spent, broken_at_start, made, not_settled}
use Rattle.std.specs.Prelude.{Err}
use Rattle.step_machine.specs.declared.machine.StepFault.{StepFault}
use Rattle.step_machine.specs.declared.machine.StepFault.TheVariants as fault
use Rattle.step_machine.specs.Situation.{Situation}
use Rattle.step_machine.proofs.Ends.{broken_memory, made_memory, same_fault, spent_memory}
use Rattle.step_machine.proofs.Stepping.{formed_on, sound_on, sound_spent}
use Rattle.step_machine.proofs.machine.Machine.make_step.Goals as goal

pub returns-in-Some-clause-stepped : goal.returns-in-Some-clause-stepped
returns-in-Some-clause-stepped g c =
    broken_at_start c.self.inside.system c.args.commands.now c.self.inside.steps c.self.inside.spent c.args.self.now c.self.view_is c.if-self.false c.args.steps.now
    c.in-Some.broken c.judge.new.steps (sym c.judge.ensures.value ∙ c.in-Some.is) (omega (arith, c.judge.ensures.touches)) c.judge.ensures.ends

pub returns-in-Err-clause-stepped : goal.returns-in-Err-clause-stepped
returns-in-Err-clause-stepped g c =
    not_settled c.self.inside.system c.args.commands.now c.self.inside.steps c.self.inside.spent c.args.self.now c.self.view_is c.if-self.false c.args.steps.now
    c.judge.new.steps (sym c.judge.ensures.value ∙ c.in_default.is) (omega (arith, c.judge.ensures.touches))
    c.in-Err.fault c.settle_unlisted.new.steps c.in-Err.ensures.unsettled

pub returns-clause-stepped : goal.returns-clause-stepped
returns-clause-stepped g c =
    made c.self.inside.system c.args.commands.now c.self.inside.steps c.self.inside.spent c.args.self.now c.self.view_is c.if-self.false c.args.steps.now
    c.judge.new.steps (sym c.judge.ensures.value ∙ c.in_default.is) (omega (arith, c.judge.ensures.touches))
    c.take_turns.new.system c.settle_unlisted.new.forest c.tell_made.result c.settle_unlisted.new.steps c.take_turns.new.steps c.in-Ok.ensures.settled c.take_turns.ensures.value c.tell_made.ensures.energy c.tell_made.ensures.halted
    (formed_on c.self.inside.system c.take_turns.new.system c.args.commands.now (c.self.inside.steps + 1) c.recall_step.ensures.well_formed c.in-Ok.ensures.settled.goes c.take_turns.ensures.value)
    c.take_turns.ensures.touches

pub returns-then-self-clause-stepped : goal.returns-then-self-clause-stepped
returns-then-self-clause-stepped g c = already_spent c.args.self.now c.args.commands.now c.args.steps.now (sym (ap (λ (v : Situation). v.spent) c.self.view_is) ∙ c.if-self.true)

pub returns-then-self-clause-memory : goal.returns-then-self-clause-memory
returns-then-self-clause-memory g c = spent_memory

pub returns-in-Some-clause-memory : goal.returns-in-Some-clause-memory
returns-in-Some-clause-memory g c = broken_memory c.in-Some.broken

pub returns-in-Err-clause-memory : goal.returns-in-Err-clause-memory
returns-in-Err-clause-memory g c = λ e. c.in-Err.ensures.memory (ap (λ (f : StepFault). Err f) (same_fault c.in-Err.fault fault.Memory e))

pub returns-clause-memory : goal.returns-clause-memory
returns-clause-memory g c = made_memory c.tell_made.result

pub settle_unlisted-requires : goal.settle_unlisted-requires
settle_unlisted-requires g c = record {
  judged = sym c.judge.ensures.value ∙ c.in_default.is;
  few = subst (λ (v : Situation). length c.args.commands.now ≤ length v.state.bots) (sym c.self.view_is) c.requires.few;
  prepared = record {
    commands = c.recall_step.ensures.commands;
    turns = c.in_default.ensures.turns;
    room = c.self.invariant.room;
    stands = c.self.invariant.stands c.if-self.false;
    tied = c.self.invariant.tied c.if-self.false;
  };
}

pub invariant_of-self-2 : goal.invariant_of-self-2
invariant_of-self-2 g c =
    let settled = c.in-Ok.ensures.settled in
    sound_on c.self.inside.system c.take_turns.new.system c.args.commands.now c.self.inside.forest c.settle_unlisted.new.forest c.self.inside.changed c.settle_unlisted.new.list c.self.inside.steps c.self.inside.spent c.args.self.now c.self.invariant c.self.view_is c.requires.steps
    c.take_turns.ensures.value settled.stands settled.tied c.settle_unlisted.ensures.room c.recall_step.ensures.rises c.recall_step.ensures.falls

pub invariant_of-self-in-Err : goal.invariant_of-self-in-Err
invariant_of-self-in-Err g c = sound_spent c.self.inside.system c.self.inside.forest c.settle_unlisted.new.forest c.self.inside.changed c.settle_unlisted.new.list c.self.inside.steps c.self.inside.spent c.self.invariant c.settle_unlisted.ensures.room
