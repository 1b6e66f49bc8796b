use Rattle.std.proofs.lemmas.Result.{on_ok_weaker}
use Rattle.void_planner.proofs.Fours.{can_shift, shift_went}
use Rattle.void_planner.proofs.four.shift.Goals as goal

pub move_all-requires-clause-moves : goal.move_all-requires-clause-moves
move_all-requires-clause-moves c = can_shift c.args.tape.now c.args.axis c.args.at c.args.next _ _ _ _ c.requires.square c.requires.at c.requires.near.0 c.requires.near.1 c.requires.stand c.towards.ensures c.towards-2.ensures c.towards-3.ensures c.towards-4.ensures

pub returns : goal.returns
returns c = on_ok_weaker c.move_all.result (shift_went c.args.tape.now c.args.axis c.args.at c.args.next _ _ _ _ c.requires.square c.requires.at c.requires.near.0 c.requires.near.1 c.requires.stand c.towards.ensures c.towards-2.ensures c.towards-3.ensures c.towards-4.ensures c.move_all.new.self) c.move_all.ensures.ok
