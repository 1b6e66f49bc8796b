use Rattle.std.proofs.Common.{◌∙◌, arith, slice_set}
use Rattle.machine_c.specs.Told.{bot_told}
use Rattle.machine_c.proofs.Buffers.{write_next}
use Rattle.machine_c.proofs.reading.give_bots.Goals as goal

pub loop-i-preserved : goal.loop-i-preserved
loop-i-preserved c =
    let below = c.loop-i-test.true in let room = c.if-bots-out.false in
    (λ j. slice_set (c.loop-i.invariant j) c.loop-i.i (c.of.ensures j)) ∙ write_next bot_told _ c.args.bots.now c.args.out.now c.loop-i.i (omega (arith, below)) (omega (arith, room))
