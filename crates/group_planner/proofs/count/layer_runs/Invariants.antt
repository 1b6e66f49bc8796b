use Rattle.std.proofs.Common.{◌≡◌, ◌*◌, ◌≤◌}
use Rattle.group_planner.specs.Rows.{runs_of_row, sum_below}
use Rattle.group_planner.proofs.count.layer_runs.Given as goal

-- the runs of the first x lines of the layer are counted
abbrev pub invariant-loop-x : goal.invariant-loop-x
invariant-loop-x l = record { value : l.runs ≡ sum_below (λ x. runs_of_row l.planes x l.y) l.x; most : l.runs ≤ l.x * l.planes.resolution }
