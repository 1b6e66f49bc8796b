use Rattle.std.proofs.Common.{refl, sym}
use Rattle.support_forest.proofs.VoidingOne.{voided_from_floor}
use Rattle.support_forest.proofs.void_one.void_from_floor.Goals as goal

pub write-requires-clause-stands : goal.write-requires-clause-stands
write-requires-clause-stands g c = sym (c.requires.can.exact.floor _ c.requires.can.full c.requires.floor)

pub returns : goal.returns
returns g c = voided_from_floor _ _ c.args.c c.word_over_floor-over.result c.args.steps.now c.word_over_floor-over.new.steps c.write.new.steps c.requires.can.exact c.requires.floor c.word_over_floor-over.ensures.word (c.if-hangs.ensures refl) c.write.ensures.written c.write.ensures.resolution c.word_over_floor-over.ensures.touch c.write.ensures.touch
