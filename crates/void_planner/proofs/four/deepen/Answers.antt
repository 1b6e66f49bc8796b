use Rattle.std.proofs.lemmas.Result.{on_ok_weaker}
use Rattle.void_planner.specs.Tiles.{far_of}
use Rattle.void_planner.proofs.Fours.{can_deepen, deepen_went}
use Rattle.void_planner.proofs.four.deepen.Goals as goal

pub move_all-requires-clause-moves : goal.move_all-requires-clause-moves
move_all-requires-clause-moves c = can_deepen c.args.tape.now (far_of c.args.tape.now.matrix.resolution) c.args.at c.args.next _ _ c.requires.rectangle c.requires.some c.requires.within c.towards.ensures c.towards-2.ensures

pub returns : goal.returns
returns c = on_ok_weaker c.move_all.result (deepen_went c.args.tape.now (far_of c.args.tape.now.matrix.resolution) c.args.at c.args.next _ _ c.requires.rectangle c.requires.some c.requires.within c.towards.ensures c.towards-2.ensures c.move_all.new.self) c.move_all.ensures.ok
