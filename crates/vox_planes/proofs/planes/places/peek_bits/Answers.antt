use Rattle.std.proofs.Common.{◌+◌, ◌*◌, ◌<◌, ◌≤◌, ◌^◌, ◌%◌, refl, arith}
use Rattle.vox_planes.proofs.Placed.{joined_fits}
use Rattle.vox_planes.proofs.TakenBits.{peeked_more}
use Rattle.vox_planes.proofs.planes.places.peek_bits.Goals as goal

pub loop-done-init : goal.loop-done-init
loop-done-init g c = record {
  so_far = record { bits = λ j l. absurd (omega arith); below = omega arith };
  few = omega arith;
  touches = omega arith;
}

pub overflow_add-found : goal.overflow_add-found
overflow_add-found g c =
    let so_far = c.loop-done.invariant.so_far in
    let few : c.loop-done.done + c.part-some.result ≤ 64 = omega (arith, c.part-some.ensures.most, c.requires.few) in
    let fits : c.loop-done.found + c.peek_part.result * 2 ^ c.loop-done.done % 2 ^ 64 < 2 ^ 64 = joined_fits c.loop-done.found c.peek_part.result c.loop-done.done c.part-some.result so_far.below c.peek_part.ensures.below few in
    omega arith

pub loop-done-preserved : goal.loop-done-preserved
loop-done-preserved g c =
    let few : c.loop-done.done + c.part-some.result ≤ 64 = omega (arith, c.part-some.ensures.most, c.requires.few) in
    record {
      so_far = peeked_more c.args.words.now c.args.index c.loop-done.done c.part-some.result c.args.bits c.peek_part.result c.loop-done.found _ c.loop-done.invariant.so_far few c.peek_part.ensures.full c.peek_part.ensures.below refl;
      few = omega (arith, c.part-some.ensures.most);
      touches = omega (arith, c.loop-done.invariant.touches, c.tick.ensures, c.part-some.ensures.some);
    }
