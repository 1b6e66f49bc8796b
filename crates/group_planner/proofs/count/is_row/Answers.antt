use Rattle.std.proofs.Common.{sym}
use Rattle.group_planner.proofs.Found.{cut_at_start, row_of_none, row_of_some}
use Rattle.group_planner.proofs.count.is_row.Goals as goal

pub next_run-requires-clause-cut : goal.next_run-requires-clause-cut
next_run-requires-clause-cut c = cut_at_start c.args.planes.now c.args.x c.args.y

pub returns-in-Some : goal.returns-in-Some
returns-in-Some c = sym (row_of_some c.args.planes.now c.args.x c.args.y _ c.in-Some.ensures.found)

pub returns-in-None : goal.returns-in-None
returns-in-None c = sym (row_of_none c.args.planes.now c.args.x c.args.y c.in-None.ensures.none)
