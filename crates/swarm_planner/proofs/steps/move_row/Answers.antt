use Rattle.std.proofs.Common.{◌∙◌, ap, length, take}
use Rattle.std.proofs.lemmas.Result.{on_ok_weaker}
use Rattle.plan_tape.specs.Crowd.{AllStep, bots_gone}
use Rattle.swarm_planner.proofs.Moves.{near_way, row_can, row_goes, row_length, row_near, same_way}
use Rattle.swarm_planner.proofs.steps.move_row.Goals as goal

pub leads-commands-requires-clause-near : goal.leads-commands-requires-clause-near
leads-commands-requires-clause-near c =
    let tape = c.args.tape.now in
    let required = c.requires in
    near_way tape c.args.axis c.args.to c.resolution-r.result c.strip_width.result c.bots-bots.result.now (c.resolution-r.ensures.value ∙ ap (λ m. m.resolution) c.matrix.ensures.value) c.strip_width.ensures (c.bots-bots.ensures.value ∙ c.crew.ensures.value)
    (row_near tape required.swarm required.row required.void c.args.axis c.args.to required.leads required.line required.near required.up)

pub move_all-requires-clause-commands : goal.move_all-requires-clause-commands
move_all-requires-clause-commands c =
    let tape = c.args.tape.now in
    let required = c.requires in
    row_length tape required.swarm required.row required.void c.args.axis c.args.to required.leads required.line required.near required.up (take (length c.bots-bots.result.now) c.leads-commands.result)
    (c.leads-commands.ensures ∙ same_way tape c.args.axis c.args.to c.resolution-r.result c.strip_width.result c.bots-bots.result.now (c.resolution-r.ensures.value ∙ ap (λ m. m.resolution) c.matrix.ensures.value) c.strip_width.ensures (c.bots-bots.ensures.value ∙ c.crew.ensures.value))

pub move_all-requires-clause-moves : goal.move_all-requires-clause-moves
move_all-requires-clause-moves c =
    let tape = c.args.tape.now in
    let required = c.requires in
    row_can tape required.swarm required.row required.void c.args.axis c.args.to required.leads required.line required.near required.up (take (length c.bots-bots.result.now) c.leads-commands.result)
    (c.leads-commands.ensures ∙ same_way tape c.args.axis c.args.to c.resolution-r.result c.strip_width.result c.bots-bots.result.now (c.resolution-r.ensures.value ∙ ap (λ m. m.resolution) c.matrix.ensures.value) c.strip_width.ensures (c.bots-bots.ensures.value ∙ c.crew.ensures.value))

pub returns : goal.returns
returns c =
    let tape = c.args.tape.now in
    let required = c.requires in
    let commands = take (length c.bots-bots.result.now) c.leads-commands.result in
    on_ok_weaker c.move_all.result
    (λ (s : AllStep tape c.move_all.new.self commands tape.matrix tape.harmonics (bots_gone tape.bots commands)).
    row_goes tape required.swarm required.row required.void c.args.axis c.args.to required.leads required.line required.near required.up c.move_all.new.self commands
    (c.leads-commands.ensures ∙ same_way tape c.args.axis c.args.to c.resolution-r.result c.strip_width.result c.bots-bots.result.now (c.resolution-r.ensures.value ∙ ap (λ m. m.resolution) c.matrix.ensures.value) c.strip_width.ensures (c.bots-bots.ensures.value ∙ c.crew.ensures.value)) s)
    c.move_all.ensures.ok
