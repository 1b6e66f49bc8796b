use Rattle.std.proofs.Common.{true, ◌+◌, ◌≤◌}
use Rattle.group_planner.specs.Rows.{runs_of_layer, sum_below}
use Rattle.group_planner.specs.Stamping.{Stamps, between_layers, climb_to, steps_below}
use Rattle.group_planner.proofs.sweep.build.Given as goal

-- the layers below that of y are filled
abbrev pub invariant-loop-y : goal.invariant-loop-y
invariant-loop-y l = record {
  stamps : Stamps l.initial.tape l.tape l.target true (between_layers l.low l.y) (sum_below (runs_of_layer l.target) l.y);
  climb : climb_to l.tape (l.y + 1) ≤ climb_to l.initial.tape (l.low + 1) + l.y + steps_below l.target l.y;
}
