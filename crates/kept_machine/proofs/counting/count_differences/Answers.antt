use Rattle.std.proofs.Common.{◌≡◌, ◌+◌, ◌≤◌, sym, ◌∙◌, ap, arith}
use Rattle.std.specs.Prelude.{bit_xor, count_ones}
use Rattle.nano_spec.specs.Model.{volume}
use Rattle.kept_machine.proofs.Differences.{all_below, differing_below, few_below, more_below, none_below}
use Rattle.kept_machine.proofs.counting.count_differences.Given as given
use Rattle.kept_machine.proofs.counting.count_differences.Goals as goal

pub loop-from-init : goal.loop-from-init
loop-from-init g c = (sym (none_below c.args.matrix.now c.args.target.now), omega arith)

within : (g : given.Over) (c : goal.After-places-there g)
    → c.loop-from.from + c.min-some.result ≤ volume c.args.matrix.now.resolution
within g c = let test = c.loop-from-test.true in omega (arith, test, c.min-some.ensures, c.volume-places.ensures.value, c.loop-from.invariant.1)

counted : (g : given.Over) (c : goal.After-places-there g)
    → c.loop-from.count + count_ones (bit_xor c.places-here.result c.places-there.result)
    ≡ differing_below c.args.matrix.now c.args.target.now (c.loop-from.from + c.min-some.result)
counted g c =
    ap (λ n. n + count_ones (bit_xor c.places-here.result c.places-there.result)) c.loop-from.invariant.0
    ∙ sym (more_below c.args.matrix.now c.args.target.now c.loop-from.from c.min-some.result c.places-here.result c.places-there.result c.requires.same (within g c)
    c.places-here.ensures.bits c.places-there.ensures.bits c.places-here.ensures.below c.places-there.ensures.below)

pub overflow_add-count : goal.overflow_add-count
overflow_add-count g c = omega (arith, counted g c, few_below c.args.matrix.now c.args.target.now (c.loop-from.from + c.min-some.result), within g c, c.volume-places.ensures.value, c.volume-places.ensures.most)

pub loop-from-preserved : goal.loop-from-preserved
loop-from-preserved g c = (counted g c, within g c)

pub returns : goal.returns
returns g c =
    let test = c.loop-from-test.false in
    let done : c.loop-from.from ≡ volume c.args.matrix.now.resolution = omega (arith, test, c.volume-places.ensures.value, c.loop-from.invariant.1) in
    c.loop-from.invariant.0 ∙ (ap (differing_below c.args.matrix.now c.args.target.now) done ∙ all_below c.args.matrix.now c.args.target.now)
