use Rattle.std.proofs.Common.{◌≡◌, ◌≤◌}
use Rattle.group_planner.specs.Rows.{count_below, is_row}
use Rattle.group_planner.proofs.count.layer_rows.Given as goal

-- the rows among the first x lines of the layer are counted
abbrev pub invariant-loop-x : goal.invariant-loop-x
invariant-loop-x l = record { value : l.rows ≡ count_below (λ x. is_row l.planes x l.y) l.x; most : l.rows ≤ l.x }
