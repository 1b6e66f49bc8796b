use Rattle.std.proofs.Common.{◌+◌, ◌-◌, ◌<◌, ◌≤◌}
use Rattle.plan_tape.specs.declared.axis.Axis.TheVariants.{Z}
use Rattle.plan_tape.specs.Leg.{moves, put}
use Rattle.group_planner.specs.Pair.{PairGoes, front, rear}
use Rattle.group_planner.proofs.pair.slide.Given as goal

-- both have gone on, by the moves that are not left
abbrev pub invariant-loop-rear_next : goal.invariant-loop-rear_next
invariant-loop-rear_next l = record {
  goes : PairGoes l.initial.tape l.tape (put Z (rear l.initial.tape) l.behind) (put Z (front l.initial.tape) l.ahead) (moves (rear l.initial.tape).z l.rear_to + moves (front l.initial.tape).z l.front_to - (moves l.behind l.rear_to + moves l.ahead l.front_to));
  left : moves l.behind l.rear_to + moves l.ahead l.front_to ≤ moves (rear l.initial.tape).z l.rear_to + moves (front l.initial.tape).z l.front_to;
  within : l.ahead < l.initial.tape.matrix.resolution;
}

abbrev pub decreases-loop-rear_next : goal.decreases-loop-rear_next
decreases-loop-rear_next l = moves l.behind l.rear_to
