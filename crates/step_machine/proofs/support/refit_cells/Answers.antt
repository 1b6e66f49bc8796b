use Rattle.std.proofs.Common.{◌≡◌, arith, rules, true, false, Err}
use Rattle.step_machine.proofs.Refitting.{edits_some, is_refitted, may_gain, may_lose}
use Rattle.step_machine.proofs.support.refit_cells.Goals as goal

pub remove-requires-clause-cells : goal.remove-requires-clause-cells
remove-requires-clause-cells g c =
    may_lose c.args.system.now c.args.commands.now c.requires.can.judged.0 c.recall.ensures.ready c.requires.can.judged.1 c.args.forest.now.matrix c.args.removed.now c.requires.can.tied c.requires.removed

pub add-requires-clause-cells : goal.add-requires-clause-cells
add-requires-clause-cells g c =
    may_gain c.args.system.now c.args.commands.now c.requires.can.judged.0 c.recall.ensures.ready c.requires.can.judged.1 c.args.forest.now.matrix c.remove.new.forest.matrix c.args.removed.now c.args.added.now c.requires.can.tied c.requires.removed c.requires.added c.in_ok-remove.ensures.value

pub returns-in_err-remove-clause-edits : goal.returns-in_err-remove-clause-edits
returns-in_err-remove-clause-edits g c =
    let is : c.from_residual.result ≡ Err c.in_err-remove.field-0.0 = search rules in
    rw is (edits_some c.args.system.now c.args.commands.now c.requires.can.judged.0 c.recall.ensures.ready c.requires.can.judged.1 true c.args.removed.now c.requires.removed c.in_err-remove.ensures.some)

pub returns-in_err-add-clause-edits : goal.returns-in_err-add-clause-edits
returns-in_err-add-clause-edits g c =
    let is : c.from_residual-in_err-add.result ≡ Err c.in_err-add.field-0.0 = search rules in
    rw is (edits_some c.args.system.now c.args.commands.now c.requires.can.judged.0 c.recall.ensures.ready c.requires.can.judged.1 false c.args.added.now c.requires.added c.in_err-add.ensures.some)

pub returns-clause-refitted : goal.returns-clause-refitted
returns-clause-refitted g c = λ before listed.
    is_refitted c.args.system.now c.args.commands.now c.requires.can.judged.0 c.recall.ensures.ready c.requires.can.judged.1 c.args.forest.now.matrix c.remove.new.forest.matrix c.add.new.forest c.args.removed.now c.args.added.now before c.args.steps.now c.remove.new.steps c.add.new.steps
    c.requires.can.tied c.requires.removed c.requires.added (omega (arith, listed)) c.in_ok-remove.ensures.value c.in_ok-remove.ensures.touches c.in_ok-add.ensures.value c.in_ok-add.ensures.touches c.in_ok-add.ensures.stands
