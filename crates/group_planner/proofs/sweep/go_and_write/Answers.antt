use Rattle.std.proofs.Common.{◌+◌}
use Rattle.group_planner.specs.Pair.{rear}
use Rattle.group_planner.specs.Rows.{runs_of_row}
use Rattle.group_planner.proofs.Worked.{way_fits}
use Rattle.group_planner.proofs.sweep.go_and_write.Goals as goal

pub go_to_row-requires-clause-limit : goal.go_to_row-requires-clause-limit
go_to_row-requires-clause-limit c =
    let tape = c.args.tape.now in
    way_fits tape.steps (rear tape).x c.args.x (rear tape).y (c.args.y + 1) tape.matrix.resolution (runs_of_row c.args.model.now c.args.x c.args.y) c.recall_whole.ensures.whole.most c.requires.ready.pair.in_row.x c.requires.x c.requires.limit
