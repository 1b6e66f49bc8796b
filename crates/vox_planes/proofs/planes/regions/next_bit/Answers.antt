use Rattle.std.proofs.Common.{◌/◌, refl, arith, get_or}
use Rattle.vox_planes.proofs.Searches.{free_less, free_word, next_in_word}
use Rattle.vox_planes.proofs.planes.regions.next_bit.Goals as goal

pub returns-then-found-end-clause-found : goal.returns-then-found-end-clause-found
returns-then-found-end-clause-found g c =
    next_in_word c.args.words.now c.args.from c.loop-at.at (get_or c.args.words.now (c.loop-at.at / 64) 0) c.mark.result c.args.value refl c.mark.type_inv c.mark.ensures (omega (arith, c.if-bits-ne0.true)) c.loop-at.invariant.low c.loop-at.invariant.free

pub returns-else-found-end-clause-none : goal.returns-else-found-end-clause-none
returns-else-found-end-clause-none g c =
    let next_in_word_here = next_in_word c.args.words.now c.args.from c.loop-at.at (get_or c.args.words.now (c.loop-at.at / 64) 0) c.mark.result c.args.value refl c.mark.type_inv c.mark.ensures (omega (arith, c.if-bits-ne0.true)) c.loop-at.invariant.low c.loop-at.invariant.free in
    free_less c.args.words.now c.args.from _ c.args.end c.args.value c.if-found-end.false next_in_word_here.before

pub loop-at-preserved : goal.loop-at-preserved
loop-at-preserved g c = record {
  low = omega (arith, c.loop-at.invariant.low);
  free = free_word c.args.words.now c.args.from c.loop-at.at (get_or c.args.words.now (c.loop-at.at / 64) 0) c.mark.result c.args.value refl c.mark.ensures c.if-bits-ne0.false c.loop-at.invariant.free;
  touches = omega (arith, c.loop-at.invariant.touches, c.tick.ensures);
  touches_end = omega (arith, c.loop-at.invariant.touches_end, c.tick.ensures);
}
