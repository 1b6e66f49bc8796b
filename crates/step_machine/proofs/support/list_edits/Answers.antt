use Rattle.std.proofs.Common.{◌++◌, ◌∙◌, ap, arith, true, false}
use Rattle.step_machine.specs.Edits.{edits_of}
use Rattle.step_machine.proofs.Refitting.{room_for_all}
use Rattle.step_machine.proofs.Working.{edits_are_volatile}
use Rattle.step_machine.proofs.support.list_edits.Goals as goal

pub list_changes-requires-clause-room : goal.list_changes-requires-clause-room
list_changes-requires-clause-room g c =
    let most = room_for_all c.args.system.now c.args.commands.now c.requires.can.judged.0 c.recall.ensures.ready c.requires.can.judged.1 c.recall.ensures.crew.most c.requires.commands in
    omega (arith, most, c.clear.ensures.room, c.requires.room)

pub list_changes-requires-2-clause-room : goal.list_changes-requires-2-clause-room
list_changes-requires-2-clause-room g c =
    let most = room_for_all c.args.system.now c.args.commands.now c.requires.can.judged.0 c.recall.ensures.ready c.requires.can.judged.1 c.recall.ensures.crew.most c.requires.commands in
    omega (arith, most, c.clear.ensures.room, c.requires.room, c.list_changes.ensures.left)

pub returns-clause-items : goal.returns-clause-items
returns-clause-items g c =
    c.list_changes-2.ensures.items ∙ ap (λ xs. xs ++ edits_of c.args.system.now c.args.commands.now false) (c.list_changes.ensures.items ∙ ap (λ xs. xs ++ edits_of c.args.system.now c.args.commands.now true) c.clear.ensures.items)

pub returns-clause-touches : goal.returns-clause-touches
returns-clause-touches g c =
    let most = edits_are_volatile c.args.system.now c.args.commands.now c.requires.can.judged.0 c.recall.ensures.ready c.requires.can.judged.1 in
    omega (arith, most, c.list_changes.ensures.touches, c.list_changes-2.ensures.touches)
