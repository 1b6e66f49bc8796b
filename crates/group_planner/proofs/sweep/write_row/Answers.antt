use Rattle.std.proofs.Common.{ap, arith}
use Rattle.std.proofs.lemmas.Result.{on_ok_weaker}
use Rattle.group_planner.specs.Rows.{one_if}
use Rattle.group_planner.proofs.Found.{cut_at_start, row_of_some}
use Rattle.group_planner.proofs.sweep.write_row.Goals as goal

pub next_run-requires-clause-cut : goal.next_run-requires-clause-cut
next_run-requires-clause-cut c = cut_at_start c.args.model.now c.args.x c.args.y

pub go_and_write-requires-clause-limit : goal.go_and_write-requires-clause-limit
go_and_write-requires-clause-limit c =
    let one = ap one_if (row_of_some c.args.model.now c.args.x c.args.y _ c.in-Some.ensures.found) in
    let limit = c.requires.limit in
    omega (arith, one, limit)

pub returns-in-Some-clause-climb : goal.returns-in-Some-clause-climb
returns-in-Some-clause-climb c =
    let one = ap one_if (row_of_some c.args.model.now c.args.x c.args.y _ c.in-Some.ensures.found) in
    on_ok_weaker c.go_and_write.result (λ w. omega (arith, one, w)) c.go_and_write.ensures.climb
