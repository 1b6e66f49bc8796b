use Rattle.std.proofs.lemmas.Result.{on_ok_weaker}
use Rattle.group_planner.proofs.Pairs.{both_moved, both_ways}
use Rattle.group_planner.proofs.pair.both_move.Goals as goal

pub move_all-requires-clause-moves : goal.move_all-requires-clause-moves
move_all-requires-clause-moves c = both_ways c.args.tape.now c.args.axis c.args.at c.args.next c.towards.result c.towards-2.result c.requires.pair c.requires.flat c.requires.here c.requires.within c.requires.free c.towards.ensures c.towards-2.ensures

pub returns : goal.returns
returns c = on_ok_weaker c.move_all.result (both_moved c.args.tape.now c.args.axis c.args.at c.args.next c.towards.result c.towards-2.result c.requires.pair c.requires.flat c.requires.here c.requires.within c.requires.free c.towards.ensures c.towards-2.ensures c.move_all.new.self) c.move_all.ensures.ok
