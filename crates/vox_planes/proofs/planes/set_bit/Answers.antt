use Rattle.std.proofs.Common.{◌%◌, sym, ◌∙◌, arith, true, false}
use Rattle.vox_planes.proofs.Bits.{filled, voided, set_here, set_others}
use Rattle.vox_planes.proofs.planes.set_bit.Goals as goal

pub returns-then-value-clause-here : goal.returns-then-value-clause-here
returns-then-value-clause-here c = set_here c.args.words.now c.args.i _ true c.requires (filled _ (c.args.i % 64) (omega arith)) ∙ sym c.if-value.true

pub returns-then-value-clause-others : goal.returns-then-value-clause-others
returns-then-value-clause-others c = set_others c.args.words.now c.args.i _ true c.requires (filled _ (c.args.i % 64) (omega arith))

pub returns-else-value-clause-here : goal.returns-else-value-clause-here
returns-else-value-clause-here c = set_here c.args.words.now c.args.i _ false c.requires (voided _ (c.args.i % 64) (omega arith)) ∙ sym c.if-value.false

pub returns-else-value-clause-others : goal.returns-else-value-clause-others
returns-else-value-clause-others c = set_others c.args.words.now c.args.i _ false c.requires (voided _ (c.args.i % 64) (omega arith))
