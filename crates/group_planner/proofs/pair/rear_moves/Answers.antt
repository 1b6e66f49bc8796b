use Rattle.std.proofs.lemmas.Result.{on_ok_weaker}
use Rattle.group_planner.proofs.Pairs.{rear_moved, rear_way}
use Rattle.group_planner.proofs.pair.rear_moves.Goals as goal

pub move_all-requires-clause-moves : goal.move_all-requires-clause-moves
move_all-requires-clause-moves c = rear_way c.args.tape.now c.args.at c.args.next c.towards.result c.requires.pair c.requires.here c.requires.before c.towards.ensures

pub returns : goal.returns
returns c = on_ok_weaker c.move_all.result (rear_moved c.args.tape.now c.args.at c.args.next c.towards.result c.requires.pair c.requires.here c.requires.before c.towards.ensures c.move_all.new.self) c.move_all.ensures.ok
