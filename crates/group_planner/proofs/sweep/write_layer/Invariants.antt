use Rattle.std.proofs.Common.{◌+◌, ◌≤◌}
use Rattle.plan_tape.specs.Parts.{in_layer}
use Rattle.group_planner.specs.Rows.{runs_of_row, sum_below}
use Rattle.group_planner.specs.Stamping.{Stamps, climb_to, row_steps}
use Rattle.group_planner.proofs.sweep.write_layer.Given as goal

-- the first x rows of the layer are written
abbrev pub invariant-loop-x : goal.invariant-loop-x
invariant-loop-x l = record {
  stamps : Stamps l.initial.tape l.tape l.model l.full (in_layer l.x l.y) (sum_below (λ x. runs_of_row l.model x l.y) l.x);
  climb : climb_to l.tape (l.y + 1) ≤ climb_to l.initial.tape (l.y + 1) + sum_below (λ x. row_steps l.model x l.y) l.x;
}
