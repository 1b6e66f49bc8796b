use Rattle.std.proofs.Common.{sym, ◌∙◌, ◌++◌, ap, subst, arith, length, append-nil}
use Rattle.std.specs.Prelude.{IsTrue}
use Rattle.nano_spec.specs.Act.{acts, stays_in_space}
use Rattle.nano_spec.specs.Group.{leaders}
use Rattle.step_machine.proofs.Acting.{leader_stays}
use Rattle.step_machine.proofs.Cells.{none_change}
use Rattle.step_machine.proofs.Turning.{among_bots, among_commands, as_many, listing_all, listing_more, room_for, turned, turned_leads, turned_rest}
use Rattle.step_machine.proofs.changes.list_changes.Goals as goal

pub bounds-bots-place : goal.bounds-bots-place
bounds-bots-place g c =
    among_bots c.args.system.now c.args.commands.now c.bots-bots.result.now c.args.turns.now c.list-turn-items.result.now c.loop-turn.turn-index c.from-place.result (c.bots-bots.ensures.value ∙ c.crew.ensures.value) c.list-turn-items.ensures c.requires.can.turns c.loop-turn-test.true c.from-place.ensures

pub bounds-commands-place : goal.bounds-commands-place
bounds-commands-place g c =
    among_commands c.args.system.now c.args.commands.now c.bots-bots.result.now c.args.turns.now c.list-turn-items.result.now c.loop-turn.turn-index c.from-place.result (c.bots-bots.ensures.value ∙ c.crew.ensures.value) c.list-turn-items.ensures c.requires.can.turns c.loop-turn-test.true c.from-place.ensures

pub list_change-requires-clause-stays : goal.list_change-requires-clause-stays
list_change-requires-clause-stays g c =
    let leads_turned = turned_leads c.args.system.now c.args.commands.now c.bots-bots.result.now c.args.turns.now c.list-turn-items.result.now c.loop-turn.turn-index c.from-place.result (c.bots-bots.ensures.value ∙ c.crew.ensures.value) c.list-turn-items.ensures c.requires.can.turns c.loop-turn-test.true c.from-place.ensures c.index-commands-place.result c.index-commands-place.is in
    subst (λ m. IsTrue (stays_in_space m.resolution (turned c.args.system.now c.args.commands.now c.bots-bots.result.now c.args.turns.now c.list-turn-items.result.now c.loop-turn.turn-index c.from-place.result (c.bots-bots.ensures.value ∙ c.crew.ensures.value) c.list-turn-items.ensures c.requires.can.turns c.loop-turn-test.true c.from-place.ensures c.index-commands-place.result c.index-commands-place.is))) (sym c.matrix-matrix.ensures.value)
    (leader_stays c.args.system.now c.args.commands.now c.requires.can.judged.0 c.crew.ensures.ready c.requires.can.judged.1 _ leads_turned)

pub list_change-requires-clause-room : goal.list_change-requires-clause-room
list_change-requires-clause-room g c =
    let rest_turned = turned_rest c.args.system.now c.args.commands.now c.bots-bots.result.now c.args.turns.now c.list-turn-items.result.now c.loop-turn.turn-index c.from-place.result (c.bots-bots.ensures.value ∙ c.crew.ensures.value) c.list-turn-items.ensures c.requires.can.turns c.loop-turn-test.true c.from-place.ensures c.index-commands-place.result c.index-commands-place.is in
    room_for c.args.system.now.matrix c.matrix-matrix.result.now c.matrix-matrix.ensures.value c.args.full (leaders (acts c.args.system.now.bots c.args.commands.now)) c.loop-turn.turn-index
    _ rest_turned c.args.list.now c.loop-turn.list c.args.steps.now c.loop-turn.steps c.loop-turn.invariant c.requires.room

pub loop-turn-preserved : goal.loop-turn-preserved
loop-turn-preserved g c =
    let rest_turned = turned_rest c.args.system.now c.args.commands.now c.bots-bots.result.now c.args.turns.now c.list-turn-items.result.now c.loop-turn.turn-index c.from-place.result (c.bots-bots.ensures.value ∙ c.crew.ensures.value) c.list-turn-items.ensures c.requires.can.turns c.loop-turn-test.true c.from-place.ensures c.index-commands-place.result c.index-commands-place.is in
    listing_more c.args.system.now.matrix c.matrix-matrix.result.now c.matrix-matrix.ensures.value c.args.full (leaders (acts c.args.system.now.bots c.args.commands.now)) c.loop-turn.turn-index
    _ rest_turned c.args.list.now c.loop-turn.list c.args.steps.now c.loop-turn.steps c.loop-turn.invariant
    c.list_change.new.list c.list_change.new.steps c.list_change.ensures.items c.list_change.ensures.room c.list_change.ensures.left c.list_change.ensures.touches

pub returns-clause-items : goal.returns-clause-items
returns-clause-items g c =
    let same_length = as_many (acts c.args.system.now.bots c.args.commands.now) (leaders (acts c.args.system.now.bots c.args.commands.now)) c.args.turns.now c.requires.can.turns in
    let length_is = ap length c.list-turn-items.ensures in
    listing_all c.args.system.now.matrix c.args.full (leaders (acts c.args.system.now.bots c.args.commands.now)) c.loop-turn.turn-index c.args.list.now c.loop-turn.list c.args.steps.now c.loop-turn.steps c.loop-turn.invariant (omega (arith, same_length, length_is, c.loop-turn-test.false))

pub returns-then-not-some_change-clause-items : goal.returns-then-not-some_change-clause-items
returns-then-not-some_change-clause-items g c =
    let none = none_change c.args.system.now.matrix c.args.full c.args.system.now.bots c.args.commands.now (sym c.some_change.ensures ∙ c.if-not-some_change.true) in
    sym (append-nil c.args.list.now.items) ∙ ap (λ cs. c.args.list.now.items ++ cs) (sym none)
