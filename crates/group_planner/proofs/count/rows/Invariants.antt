use Rattle.std.proofs.Common.{◌≡◌, ◌*◌, ◌≤◌}
use Rattle.group_planner.specs.Rows.{rows_of_layer, sum_below}
use Rattle.group_planner.proofs.count.rows.Given as goal

-- the rows of the first y layers are counted
abbrev pub invariant-loop-y : goal.invariant-loop-y
invariant-loop-y l = record { value : l.rows ≡ sum_below (rows_of_layer l.planes) l.y; most : l.rows ≤ l.y * l.planes.resolution }
