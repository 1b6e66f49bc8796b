use Rattle.std.proofs.Common.{◌∙◌, ◌+◌, ◌-◌, sym, subst, List, length, slice_set, take}
use Rattle.std.proofs.lemmas.Result.{on_ok_weaker}
use Rattle.nano_spec.specs.declared.commands.Command.{Command}
use Rattle.nano_spec.specs.declared.commands.Command.TheVariants.{SMove}
use Rattle.plan_tape.specs.declared.axis.Axis.TheVariants.{X}
use Rattle.plan_tape.specs.Crowd.{AllStep, CanMoveAll, bots_gone}
use Rattle.plan_tape.specs.Progress.{spot}
use Rattle.swarm_planner.specs.Crew.{places}
use Rattle.swarm_planner.specs.Lineup.{sent}
use Rattle.swarm_planner.proofs.Lines.{last_led, sent_led}
use Rattle.swarm_planner.proofs.Moves.{can_move, goes_by}
use Rattle.swarm_planner.proofs.steps.move_last.Goals as goal

pub move_all-requires-clause-moves : goal.move_all-requires-clause-moves
move_all-requires-clause-moves c =
    let tape = c.args.tape.now in
    let required = c.requires in
    let line = required.line in
    let led_last = last_led tape.bots c.bots.result.now c.waits-commands.result c.towards.result c.last_column-at.result c.args.to (c.bots.ensures.value ∙ c.crew.ensures.value) line.some c.crew.ensures.crew.most c.waits-commands.ensures c.last_column-at.ensures.value c.towards.ensures required.differ in
    subst (λ (ks : List Command). CanMoveAll tape ks) (sym led_last) (can_move tape line.swarm (spot tape.bots).y line.void X (sent (places tape.bots) c.args.to) 1 (sent_led tape.matrix.resolution (spot tape.bots).y (spot tape.bots).z 1 c.args.to (places tape.bots) line.y line.z line.lined required.free required.within required.near))

pub returns : goal.returns
returns c =
    let tape = c.args.tape.now in
    let required = c.requires in
    let line = required.line in
    let led_last = last_led tape.bots c.bots.result.now c.waits-commands.result c.towards.result c.last_column-at.result c.args.to (c.bots.ensures.value ∙ c.crew.ensures.value) line.some c.crew.ensures.crew.most c.waits-commands.ensures c.last_column-at.ensures.value c.towards.ensures required.differ in
    let last = length c.bots.result.now - 1 in
    let commands = take (last + 1) (slice_set c.waits-commands.result last (SMove c.towards.result)) in
    on_ok_weaker c.move_all.result
    (λ (s : AllStep tape c.move_all.new.self commands tape.matrix tape.harmonics (bots_gone tape.bots commands)).
    goes_by tape line.swarm (spot tape.bots).y line.void X (sent (places tape.bots) c.args.to) 1 (sent_led tape.matrix.resolution (spot tape.bots).y (spot tape.bots).z 1 c.args.to (places tape.bots) line.y line.z line.lined required.free required.within required.near) c.move_all.new.self
    (subst (λ (ks : List Command). AllStep tape c.move_all.new.self ks tape.matrix tape.harmonics (bots_gone tape.bots ks)) led_last s))
    c.move_all.ensures.ok
