use Rattle.std.proofs.Common.{◌≡◌, ◌<◌, length, map, sym, ◌∙◌, arith}
use Rattle.std.proofs.lemmas.List.{get_or-map, length-map}
use Rattle.system_state.specs.Turns.{leader_of}
use Rattle.system_state.proofs.Advancing.{no_turn}
use Rattle.system_state.proofs.turns.turn_of.Goals as goal

pub returns-clause-leader : goal.returns-clause-leader
returns-clause-leader c =
    let turns = c.args.turns.now in
    let required = c.requires in
    let long : length (map leader_of turns) ≡ length turns = length-map turns leader_of in
    let below : required.0 < length turns = omega (arith, long, required.1) in
    absurd (c.loop-turn.invariant required.0 no_turn (omega (arith, below, c.loop-turn-test.false)) (sym (get_or-map leader_of turns required.0 no_turn c.args.leader below) ∙ required.2))
