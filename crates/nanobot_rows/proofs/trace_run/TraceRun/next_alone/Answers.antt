use Rattle.nanobot_rows.proofs.TakenBytes.{known_head}
use Rattle.nanobot_rows.proofs.trace_run.TraceRun.next_alone.Goals as goal

pub step_by-requires-in-3-clause-head : goal.step_by-requires-in-3-clause-head
step_by-requires-in-3-clause-head g c = known_head c.args.piece.now 3 c.requires.some c.in-3.is

pub step_by-requires-in-2-clause-head : goal.step_by-requires-in-2-clause-head
step_by-requires-in-2-clause-head g c = known_head c.args.piece.now 2 c.requires.some c.in-2.is
