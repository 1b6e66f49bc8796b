use Rattle.std.proofs.Common.{◌+◌, sym, ◌∙◌, ap, subst, arith, length}
use Rattle.plan_tape.specs.Leg.{gap}
use Rattle.swarm_planner.specs.Crew.{places}
use Rattle.swarm_planner.specs.Lineup.{Gathers, free_column, last_column}
use Rattle.swarm_planner.proofs.Gathering.{gathers}
use Rattle.swarm_planner.proofs.Lines.{free-sent, last-sent, last_free, last_within, length-sent}
use Rattle.swarm_planner.proofs.Rows.{length-places}
use Rattle.swarm_planner.proofs.Sending.{places_on}
use Rattle.swarm_planner.proofs.crew.gather_one.Goals as goal

pub send_last-requires-clause-within : goal.send_last-requires-clause-within
send_last-requires-clause-within c =
    let tape = c.args.tape.now in
    let two = c.requires.two in
    let as_many_places = length-places tape.bots in
    let to_ensured = c.free_place-to.ensures in
    let free_below_last = last_free tape.matrix.resolution _ _ 1 (places tape.bots) c.requires.line.lined (omega arith) in
    let last_within_here = last_within tape.matrix.resolution _ _ 1 (places tape.bots) c.requires.line.lined (omega arith) in
    omega (arith, to_ensured, free_below_last, last_within_here)

pub fuse_last-requires-clause-two : goal.fuse_last-requires-clause-two
fuse_last-requires-clause-two c =
    let tape = c.args.tape.now in
    let to = c.free_place-to.result in
    let there = places_on tape c.send_last.new.tape c.requires.line to (gap (last_column (places tape.bots)) to) c.in_ok-send_last.ensures.goes in
    let two = c.requires.two in
    let as_many_places = length-places tape.bots in
    let places_count = length-places c.send_last.new.tape.bots in
    let sent_length = length-sent (places tape.bots) to in
    let length_is = ap length there in
    omega (arith, two, as_many_places, places_count, sent_length, length_is)

pub fuse_last-requires-clause-beside : goal.fuse_last-requires-clause-beside
fuse_last-requires-clause-beside c =
    let tape = c.args.tape.now in
    let to = c.free_place-to.result in
    let there = places_on tape c.send_last.new.tape c.requires.line to (gap (last_column (places tape.bots)) to) c.in_ok-send_last.ensures.goes in
    let two = c.requires.two in
    let as_many_places = length-places tape.bots in
    ap last_column there ∙ (last-sent to (places tape.bots) (omega arith) ∙ (c.free_place-to.ensures ∙ (sym (free-sent 1 to (places tape.bots)) ∙ sym (ap (free_column 1) there))))

pub returns : goal.returns
returns c =
    let tape = c.args.tape.now in
    let to = c.free_place-to.result in
    let gathers_here = gathers tape c.send_last.new.tape c.fuse_last.new.tape to (gap (last_column (places tape.bots)) to) c.requires.line c.requires.two c.free_place-to.ensures c.in_ok-send_last.ensures.goes c.in_ok-send_last.ensures.line c.in_ok-fuse_last.ensures.regroups c.in_ok-fuse_last.ensures.places in
    subst (λ n. Gathers tape c.fuse_last.new.tape (gap (last_column (places tape.bots)) n + 1)) c.free_place-to.ensures gathers_here
