use Rattle.std.proofs.Common.{◌<◌, ◌^◌, ◌∙◌, arith, get_or, length, not, ◌&&◌, ap}
use Rattle.std.proofs.lemmas.List.{length-set}
use Rattle.nano_spec.specs.Model.{bit}
use Rattle.vox_planes.proofs.Stacks.{dropped_more, dropped_none, kept_word}
use Rattle.vox_planes.proofs.planes.whole.drop_stacked.Goals as goal

pub loop-i-init : goal.loop-i-init
loop-i-init g c = record { dropped = dropped_none c.args.left.now c.args.full.now c.args.layer; same = c.requires.same; touches = omega arith }

pub loop-i-preserved : goal.loop-i-preserved
loop-i-preserved g c =
    let same = c.loop-i.invariant.same in
    let within : c.loop-i.i < length c.loop-i.left = omega (arith, c.loop-i-test.true, c.loop-i.auto.i-end) in
    let fits : c.going-gone.result < 2 ^ 64 = omega (arith, c.going-gone.type_inv) in
    record {
      dropped = dropped_more c.args.left.now c.loop-i.left c.args.full.now c.args.layer c.loop-i.i _ c.requires.some within
          (λ k l. kept_word (get_or c.loop-i.left c.loop-i.i 0) c.going-gone.result fits k l ∙ ap (λ b. bit (get_or c.loop-i.left c.loop-i.i 0) k && not b) (c.going-gone.ensures.bits k l))
          c.loop-i.invariant.dropped;
      same = length-set c.loop-i.left c.loop-i.i _ ∙ same;
      touches = omega (arith, c.loop-i.invariant.touches, c.going-gone.ensures.touches, c.tick.ensures, c.tick-in-loop-i.ensures);
    }

pub returns-clause-left : goal.returns-clause-left
returns-clause-left g c = λ j l. c.loop-i.invariant.dropped.done j (omega (arith, c.loop-i-test.false, c.loop-i.auto.i-end))

pub returns-clause-touches : goal.returns-clause-touches
returns-clause-touches g c = omega (arith, c.loop-i.invariant.touches, c.loop-i-test.false, c.loop-i.auto.i-end)
