use Rattle.std.proofs.Common.{arith, sym}
use Rattle.group_planner.proofs.Searched.{is_end, is_next}
use Rattle.group_planner.proofs.run.next.Goals as goal

pub returns-in-Some : goal.returns-in-Some
returns-in-Some c = is_next c.args.planes.now c.args.first c.in-Some.c c.args.end c.args.full (omega arith) (sym c.in-Some.ensures)

pub returns-in-None : goal.returns-in-None
returns-in-None c = is_end c.args.planes.now c.args.first c.args.end c.args.full (omega arith) (sym c.in-None.ensures)
