use Rattle.std.proofs.Common.{arith}
use Rattle.vox_planes.proofs.Filled.{filled_more}
use Rattle.vox_planes.proofs.planes.painting.set_bits.Goals as goal

pub loop-done-preserved : goal.loop-done-preserved
loop-done-preserved g c = record {
  so_far = filled_more c.args.words.now c.loop-done.words c.set_some-changed.new.words c.args.index c.loop-done.done c.part-some.result c.args.full c.loop-done.changed c.set_some-changed.result c.loop-done.invariant.so_far (record { here = c.set_some-changed.ensures.here; others = c.set_some-changed.ensures.others; changed = c.set_some-changed.ensures.count });
  few = omega (arith, c.part-some.ensures.most);
  most = omega (arith, c.loop-done.invariant.most, c.set_some-changed.ensures.most);
  touches = omega (arith, c.loop-done.invariant.touches, c.tick.ensures, c.part-some.ensures.some);
}
