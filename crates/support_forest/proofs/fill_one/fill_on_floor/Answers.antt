use Rattle.std.proofs.Common.{arith, refl}
use Rattle.support_forest.proofs.FillingOne.{filled_on_floor}
use Rattle.support_forest.proofs.fill_one.fill_on_floor.Goals as goal

pub returns : goal.returns
returns g c = record {
  filled = filled_on_floor c.args.cells.now c.write.new.self c.args.c c.word_over_floor-over.result c.args.steps.now c.word_over_floor-over.new.steps c.write.new.steps
      c.requires.can.can.exact c.requires.can.can.within c.requires.can.can.void c.requires.floor c.word_over_floor-over.ensures.word (c.if-not-may_lie_under.ensures refl) c.write.ensures.written c.write.ensures.resolution c.word_over_floor-over.ensures.touch c.write.ensures.touch;
  held = λ _. omega (arith, c.write.ensures.written.here);
}
