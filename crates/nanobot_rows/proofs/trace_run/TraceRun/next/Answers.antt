use Rattle.nanobot_rows.proofs.TakenBytes.{known_head}
use Rattle.nanobot_rows.proofs.trace_run.TraceRun.next.Goals as goal

pub take_from-requires-in-3-clause-head : goal.take_from-requires-in-3-clause-head
take_from-requires-in-3-clause-head g c = known_head c.args.piece.now 3 c.requires.some c.in-3.is

pub take_from-requires-in-2-clause-head : goal.take_from-requires-in-2-clause-head
take_from-requires-in-2-clause-head g c = known_head c.args.piece.now 2 c.requires.some c.in-2.is
