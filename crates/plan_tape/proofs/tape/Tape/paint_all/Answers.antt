use Rattle.std.proofs.Common.{◌≡◌, ◌+◌}
use Rattle.std.proofs.lemmas.Result.{on_ok_weaker}
use Rattle.nano_spec.specs.Step.{after}
use Rattle.step_order.specs.Acting.{with_region}
use Rattle.plan_tape.specs.Progress.{state_of, tape_stepped}
use Rattle.plan_tape.proofs.Crowds.{held_under_high, stepped_is}
use Rattle.plan_tape.proofs.tape.Tape.paint_all.Goals as goal

pub step-requires-clause-unbroken : goal.step-requires-clause-unbroken
step-requires-clause-unbroken c =
    let self = c.args.self.now in
    let group = c.requires.group in
    c.one_group_breaks_no_rule.ensures (state_of self) c.args.commands.now (self.steps + 1) group.region group.full c.recall_ready.ensures.ready c.requires.commands group.group

pub step-requires-clause-held : goal.step-requires-clause-held
step-requires-clause-held c =
    let self = c.args.self.now in
    let group = c.requires.group in
    held_under_high (after (state_of self) c.args.commands.now) self.harmonics (c.one_group_acts.ensures.harmonics (state_of self) c.args.commands.now group.region group.full group.group) c.requires.high

pub returns-clause-ok : goal.returns-clause-ok
returns-clause-ok c =
    let self = c.args.self.now in
    on_ok_weaker c.step.result
    (λ (e : c.step.new.self ≡ tape_stepped self c.args.commands.now) region full group. stepped_is self c.step.new.self c.args.commands.now (with_region self.matrix region full) self.harmonics self.bots e
    (c.one_group_acts.ensures.matrix (state_of self) c.args.commands.now region full group)
    (c.one_group_acts.ensures.harmonics (state_of self) c.args.commands.now region full group)
    (c.one_group_acts.ensures.bots (state_of self) c.args.commands.now region full c.recall_ready.ensures.ready c.requires.commands group))
    c.step.ensures.ok
