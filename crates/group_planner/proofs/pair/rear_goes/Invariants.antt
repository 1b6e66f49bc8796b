use Rattle.std.proofs.Common.{◌-◌, ◌<◌, ◌≤◌}
use Rattle.plan_tape.specs.declared.axis.Axis.TheVariants.{Z}
use Rattle.plan_tape.specs.Leg.{moves, put}
use Rattle.group_planner.specs.Pair.{PairGoes, front, rear}
use Rattle.group_planner.proofs.pair.rear_goes.Given as goal

-- the rear bot has gone on, by the moves that are not left
abbrev pub invariant-loop-at : goal.invariant-loop-at
invariant-loop-at l = record {
  goes : PairGoes l.initial.tape l.tape (put Z (rear l.initial.tape) l.at) (front l.initial.tape) (moves (rear l.initial.tape).z l.to - moves l.at l.to);
  left : moves l.at l.to ≤ moves (rear l.initial.tape).z l.to;
  before : l.at < (front l.initial.tape).z;
}

abbrev pub decreases-loop-at : goal.decreases-loop-at
decreases-loop-at l = moves l.at l.to
