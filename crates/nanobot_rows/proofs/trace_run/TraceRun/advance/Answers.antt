use Rattle.std.proofs.Common.{◌≡◌, arith}
use Rattle.nanobot_rows.proofs.AloneBytes.{then_next}
use Rattle.nanobot_rows.proofs.trace_run.TraceRun.advance.Goals as goal

pub returns : goal.returns
returns g c =
    let few = c.if-used-gt0.false in
    let none : c.in_ok-used.used ≡ 0 = omega arith in
    then_next c.next.result c.args.self.now c.run_where_alone.new.self c.next.new.self c.args.piece.now c.in_ok-used.used c.args.steps.now c.run_where_alone.new.steps c.next.new.steps
    none c.in_ok-used.ensures c.next.ensures
