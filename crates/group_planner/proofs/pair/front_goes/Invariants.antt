use Rattle.std.proofs.Common.{◌-◌, ◌<◌, ◌≤◌}
use Rattle.plan_tape.specs.declared.axis.Axis.TheVariants.{Z}
use Rattle.plan_tape.specs.Leg.{moves, put}
use Rattle.group_planner.specs.Pair.{PairGoes, front, rear}
use Rattle.group_planner.proofs.pair.front_goes.Given as goal

-- the front bot has gone on, by the moves that are not left
abbrev pub invariant-loop-at : goal.invariant-loop-at
invariant-loop-at l = record {
  goes : PairGoes l.initial.tape l.tape (rear l.initial.tape) (put Z (front l.initial.tape) l.at) (moves (front l.initial.tape).z l.to - moves l.at l.to);
  left : moves l.at l.to ≤ moves (front l.initial.tape).z l.to;
  past : (rear l.initial.tape).z < l.at;
}

abbrev pub decreases-loop-at : goal.decreases-loop-at
decreases-loop-at l = moves l.at l.to
