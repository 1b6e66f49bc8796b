use Rattle.std.proofs.Common.{◌-◌, ◌<◌, ◌≤◌}
use Rattle.plan_tape.specs.Leg.{moves, put}
use Rattle.group_planner.specs.Pair.{PairGoes, front, rear}
use Rattle.group_planner.proofs.pair.both_go.Given as goal
use Rattle.plan_tape.specs.Progress.{IsVoidFrom}

-- both have gone on, by the moves that are not left
abbrev pub invariant-loop-at : goal.invariant-loop-at
invariant-loop-at l = record {
  goes : PairGoes l.initial.tape l.tape (put l.axis (rear l.initial.tape) l.at) (put l.axis (front l.initial.tape) l.at) (moves l.from l.to - moves l.at l.to);
  left : moves l.at l.to ≤ moves l.from l.to;
  within : l.at < l.initial.tape.matrix.resolution;
  free : IsVoidFrom l.initial.tape.matrix (put l.axis (rear l.initial.tape) l.at).y;
}

abbrev pub decreases-loop-at : goal.decreases-loop-at
decreases-loop-at l = moves l.at l.to
