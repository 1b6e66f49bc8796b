use Rattle.std.proofs.Common.{◌∙◌, sym, ap, arith}
use Rattle.std.proofs.lemmas.Nat.{ones-le}
use Rattle.vox_planes.specs.Bits.{others_of}
use Rattle.vox_planes.proofs.Filled.{all_full, all_void, ones_other, zeros_other}
use Rattle.vox_planes.proofs.planes.painting.set_some.Goals as goal

pub overflow_sub-result : goal.overflow_sub-result
overflow_sub-result c = ones-le c.args.count c.bits_at-ones.result c.bits_at-ones.ensures.below

pub returns-then-full-clause-here : goal.returns-then-full-clause-here
returns-then-full-clause-here c = λ k l. all_full c.put_bits.new.words c.args.index c.args.count (omega (arith, c.requires.word)) c.put_bits.ensures.here k l ∙ sym c.if-full.true

pub returns-then-full-clause-count : goal.returns-then-full-clause-count
returns-then-full-clause-count c = zeros_other c.args.words.now c.args.index c.args.count c.bits_at-ones.result c.bits_at-ones.ensures.bits c.bits_at-ones.ensures.below ∙ ap (others_of c.args.words.now c.args.index c.args.count) (sym c.if-full.true)

pub returns-else-full-clause-here : goal.returns-else-full-clause-here
returns-else-full-clause-here c = λ k l. all_void c.put_bits-else-full.new.words c.args.index c.args.count c.put_bits-else-full.ensures.here k l ∙ sym c.if-full.false

pub returns-else-full-clause-count : goal.returns-else-full-clause-count
returns-else-full-clause-count c = ones_other c.args.words.now c.args.index c.args.count c.bits_at-ones.result c.bits_at-ones.ensures.bits c.bits_at-ones.ensures.below ∙ ap (others_of c.args.words.now c.args.index c.args.count) (sym c.if-full.false)

pub returns-else-full-clause-most : goal.returns-else-full-clause-most
returns-else-full-clause-most c = ones-le c.args.count c.bits_at-ones.result c.bits_at-ones.ensures.below
