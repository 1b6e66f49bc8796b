use Rattle.std.proofs.lemmas.Result.{on_ok_weaker}
use Rattle.void_planner.proofs.Fours.{can_widen, widen_went}
use Rattle.void_planner.proofs.four.widen.Goals as goal

pub move_all-requires-clause-moves : goal.move_all-requires-clause-moves
move_all-requires-clause-moves c = can_widen c.args.tape.now 1 c.args.at c.args.next _ _ c.requires.rectangle c.requires.some c.requires.within c.towards.ensures c.towards-2.ensures

pub returns : goal.returns
returns c = on_ok_weaker c.move_all.result (widen_went c.args.tape.now 1 c.args.at c.args.next _ _ c.requires.rectangle c.requires.some c.requires.within c.towards.ensures c.towards-2.ensures c.move_all.new.self) c.move_all.ensures.ok
