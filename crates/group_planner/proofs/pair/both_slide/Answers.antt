use Rattle.std.proofs.lemmas.Result.{on_ok_weaker}
use Rattle.group_planner.proofs.Pairs.{slid, slide_ways}
use Rattle.group_planner.proofs.pair.both_slide.Goals as goal

pub move_all-requires-clause-moves : goal.move_all-requires-clause-moves
move_all-requires-clause-moves c = slide_ways c.args.tape.now c.args.behind c.args.rear_next c.args.ahead c.args.front_next c.towards.result c.towards-2.result c.requires.pair c.requires.rear_here c.requires.front_here c.requires.within c.requires.clear c.requires.past c.requires.order c.towards.ensures c.towards-2.ensures

pub returns : goal.returns
returns c = on_ok_weaker c.move_all.result (slid c.args.tape.now c.args.behind c.args.rear_next c.args.ahead c.args.front_next c.towards.result c.towards-2.result c.requires.pair c.requires.rear_here c.requires.front_here c.requires.within c.requires.clear c.requires.past c.requires.order c.towards.ensures c.towards-2.ensures c.move_all.new.self) c.move_all.ensures.ok
