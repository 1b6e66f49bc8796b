use Rattle.std.proofs.Common.{◌+◌, ◌*◌, ◌<◌, ◌≤◌, ◌^◌, ◌%◌, refl, arith}
use Rattle.vox_planes.proofs.Placed.{joined_fits}
use Rattle.vox_planes.proofs.TakenBits.{taken_more}
use Rattle.vox_planes.proofs.planes.places.take_bits.Goals as goal

pub overflow_add-taken : goal.overflow_add-taken
overflow_add-taken g c =
    let so_far = c.loop-done.invariant.so_far in
    let was = so_far.was in
    let few : c.loop-done.done + c.part-some.result ≤ 64 = omega (arith, c.part-some.ensures.most, c.requires.few) in
    let fits : c.loop-done.taken + c.take_part.result * 2 ^ c.loop-done.done % 2 ^ 64 < 2 ^ 64 = joined_fits c.loop-done.taken c.take_part.result c.loop-done.done c.part-some.result was.below c.take_part.ensures.below few in
    omega arith

pub loop-done-preserved : goal.loop-done-preserved
loop-done-preserved g c =
    let few : c.loop-done.done + c.part-some.result ≤ 64 = omega (arith, c.part-some.ensures.most, c.requires.few) in
    record {
      so_far = taken_more c.args.words.now c.loop-done.words c.take_part.new.words c.args.index c.loop-done.done c.part-some.result c.args.bits c.take_part.result c.loop-done.taken _ c.loop-done.invariant.so_far few c.take_part.ensures.was c.take_part.ensures.below c.take_part.ensures.left refl;
      few = omega (arith, c.part-some.ensures.most);
      touches = omega (arith, c.loop-done.invariant.touches, c.tick.ensures, c.part-some.ensures.some);
    }
