use Rattle.nanobot_rows.proofs.AloneBytes.{takes_none}
use Rattle.nanobot_rows.proofs.trace_run.TraceRun.run_where_alone.Goals as goal

pub returns-then-not-is_alone : goal.returns-then-not-is_alone
returns-then-not-is_alone g c = takes_none c.args.self.now c.args.piece.now c.args.steps.now c.requires.stands

pub returns-then-not-is_between : goal.returns-then-not-is_between
returns-then-not-is_between g c = takes_none c.args.self.now c.args.piece.now c.args.steps.now c.requires.stands
