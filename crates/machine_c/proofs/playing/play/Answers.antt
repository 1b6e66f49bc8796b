use Rattle.machine_c.proofs.Played.{all_made, all_used, none_played, one_refused, played_more}
use Rattle.machine_c.proofs.playing.play.Goals as goal

pub loop-made-init : goal.loop-made-init
loop-made-init c = none_played c.args.machine.now c.args.trace.now c.args.most

pub loop-made-preserved : goal.loop-made-preserved
loop-made-preserved c =
    played_more c.args.machine.now c.args.trace.now c.args.most c.loop-made.machine c.play_step.new.machine c.loop-made.made c.loop-made.used c.in-Ok.size
    c.loop-made.invariant c.loop-made-test.true c.in-Ok.ensures.made

pub returns-then-used-trace : goal.returns-then-used-trace
returns-then-used-trace c =
    all_used c.args.machine.now c.args.trace.now c.args.most c.loop-made.machine c.loop-made.made c.loop-made.used c.loop-made.invariant c.if-used-trace.true

pub returns-in-Err : goal.returns-in-Err
returns-in-Err c =
    one_refused c.args.machine.now c.args.trace.now c.args.most c.loop-made.machine c.play_step.new.machine c.loop-made.made c.loop-made.used c.in-Err.answer
    c.loop-made.invariant c.loop-made-test.true c.if-used-trace.false c.in-Err.ensures.stays c.in-Err.ensures.stops

pub returns : goal.returns
returns c =
    all_made c.args.machine.now c.args.trace.now c.args.most c.loop-made.machine c.loop-made.made c.loop-made.used c.loop-made.invariant c.loop-made-test.false
