use Rattle.nanobot_rows.proofs.Paying.{paid_at_first}
use Rattle.nanobot_rows.proofs.Running.{started}
use Rattle.nanobot_rows.proofs.trace_run.TraceRun.start.Goals as goal

pub returns-clause-run : goal.returns-clause-run
returns-clause-run g c = started c.args.source c.args.profile c.new.result c.in_ok-runner.runner c.pieces_decode.ensures.start c.new.ensures c.in_ok-runner.ensures.progress

pub returns-clause-paid : goal.returns-clause-paid
returns-clause-paid g c = paid_at_first c.the_work_pays.ensures.first c.args.source c.args.profile c.new.result c.in_ok-runner.runner c.start.new.steps c.pieces_decode.ensures.start c.new.ensures c.in_ok-runner.ensures.progress
