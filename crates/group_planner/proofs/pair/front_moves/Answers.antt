use Rattle.std.proofs.lemmas.Result.{on_ok_weaker}
use Rattle.group_planner.proofs.Pairs.{front_moved, front_way}
use Rattle.group_planner.proofs.pair.front_moves.Goals as goal

pub move_all-requires-clause-moves : goal.move_all-requires-clause-moves
move_all-requires-clause-moves c = front_way c.args.tape.now c.args.at c.args.next c.towards.result c.requires.pair c.requires.here c.requires.within c.requires.past c.towards.ensures

pub returns : goal.returns
returns c = on_ok_weaker c.move_all.result (front_moved c.args.tape.now c.args.at c.args.next c.towards.result c.requires.pair c.requires.here c.requires.within c.requires.past c.towards.ensures c.move_all.new.self) c.move_all.ensures.ok
