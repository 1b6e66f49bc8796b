use Rattle.std.proofs.Common.{◌≡◌, ◌+◌, refl}
use Rattle.std.proofs.lemmas.Result.{on_ok_weaker}
use Rattle.nano_spec.specs.Step.{after}
use Rattle.plan_tape.specs.Progress.{state_of, tape_stepped}
use Rattle.plan_tape.proofs.Crowds.{held_as, stepped_is}
use Rattle.plan_tape.proofs.tape.Tape.act_all.Goals as goal

pub step-requires-clause-unbroken : goal.step-requires-clause-unbroken
step-requires-clause-unbroken c =
    let self = c.args.self.now in
    c.free_bots_break_no_rule.ensures (state_of self) c.args.commands.now (self.steps + 1) c.recall_ready.ensures.ready c.requires.commands c.requires.calm.free

pub step-requires-clause-held : goal.step-requires-clause-held
step-requires-clause-held c =
    let self = c.args.self.now in
    let state_after = after (state_of self) c.args.commands.now in
    held_as (record state_after { harmonics = self.harmonics }) state_after refl (c.bots_act.ensures.harmonics (state_of self) c.args.commands.now c.requires.calm.calm) c.requires.held

pub returns-clause-ok : goal.returns-clause-ok
returns-clause-ok c =
    let self = c.args.self.now in
    let commands = c.args.commands.now in
    on_ok_weaker c.step.result
    (λ (e : c.step.new.self ≡ tape_stepped self commands). stepped_is self c.step.new.self commands (after (state_of self) commands).matrix self.harmonics (after (state_of self) commands).bots e refl (c.bots_act.ensures.harmonics (state_of self) commands c.requires.calm.calm) refl)
    c.step.ensures.ok
