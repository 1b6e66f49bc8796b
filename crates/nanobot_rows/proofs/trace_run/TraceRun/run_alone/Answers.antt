use Rattle.vox_geom.proofs.Truths.{not_is_false}
use Rattle.nanobot_rows.proofs.AloneBytes.{further}
use Rattle.nanobot_rows.proofs.trace_run.TraceRun.run_alone.Goals as goal

pub returns-then-not-went : goal.returns-then-not-went
returns-then-not-went g c =
    let loop_at = c.loop-at in
    further c.args.self.now loop_at.self c.next_alone.new.self c.args.piece.now loop_at.at c.from-at.result c.in_ok-went.went c.args.steps.now loop_at.steps c.next_alone.new.steps
    loop_at.invariant.within c.from-at.ensures loop_at.invariant.takes c.in_ok-went.ensures

pub loop-at-preserved : goal.loop-at-preserved
loop-at-preserved g c =
    let loop_at = c.loop-at in
    let next_further = further c.args.self.now loop_at.self c.next_alone.new.self c.args.piece.now loop_at.at c.from-at.result c.in_ok-went.went c.args.steps.now loop_at.steps c.next_alone.new.steps
    loop_at.invariant.within c.from-at.ensures loop_at.invariant.takes c.in_ok-went.ensures in
    record { within = next_further.within; takes = next_further.takes; alone = c.in_ok-went.ensures.still (not_is_false c.in_ok-went.went.alone c.if-not-went.false) }
