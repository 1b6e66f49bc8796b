use Rattle.std.proofs.Common.{◌≡◌, ◌*◌, ◌≤◌}
use Rattle.group_planner.specs.Rows.{runs_of_layer, sum_below}
use Rattle.group_planner.proofs.count.runs.Given as goal

-- the runs of the first y layers are counted
abbrev pub invariant-loop-y : goal.invariant-loop-y
invariant-loop-y l = record { value : l.runs ≡ sum_below (runs_of_layer l.planes) l.y; most : l.runs ≤ l.y * (l.planes.resolution * l.planes.resolution) }
