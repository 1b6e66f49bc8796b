use Rattle.std.proofs.Common.{false, ◌+◌, ◌-◌, ◌<◌, ◌≤◌}
use Rattle.plan_tape.specs.Parts.{from_layer}
use Rattle.group_planner.specs.Rows.{runs, runs_of_layer, sum_below}
use Rattle.group_planner.specs.Stamping.{Stamps, climb_to, steps_below}
use Rattle.group_planner.proofs.sweep.clear.Given as goal

-- the layers from that of y on are voided
abbrev pub invariant-loop-y : goal.invariant-loop-y
invariant-loop-y l = record {
  stamps : Stamps l.initial.tape l.tape l.source false (from_layer l.y) (runs l.source - sum_below (runs_of_layer l.source) l.y);
  within : l.y < l.initial.tape.matrix.resolution;
  low : l.low ≤ l.y;
  climb : climb_to l.tape l.y + steps_below l.source l.y + l.y ≤ climb_to l.initial.tape (l.initial.tape.matrix.resolution - 1) + l.initial.tape.matrix.resolution + steps_below l.source l.initial.tape.matrix.resolution;
}

abbrev pub decreases-loop-y : goal.decreases-loop-y
decreases-loop-y l = l.y
