use Rattle.std.proofs.Common.{◌≡◌, ◌+◌}
use Rattle.plan_tape.specs.Leg.{moves}
use Rattle.plan_tape.specs.Progress.{spot}
use Rattle.plan_tape.specs.Fissions.{fissions}
use Rattle.void_planner.specs.Square.{IsRectangle}
use Rattle.void_planner.proofs.four.set_width.Given as goal

-- the rectangle has a width on the way to the required one
abbrev pub invariant-loop-at : goal.invariant-loop-at
invariant-loop-at l = record {
  source : l.tape.source ≡ l.initial.tape.source;
  matrix : l.tape.matrix ≡ l.initial.tape.matrix;
  rectangle : IsRectangle l.tape l.at 1;
  there : spot l.tape.bots ≡ spot l.initial.tape.bots;
  fissions_are : fissions l.tape ≡ fissions l.initial.tape;
  steps : l.tape.steps + moves l.at l.to ≡ l.initial.tape.steps + moves l.from l.to;
}

abbrev pub decreases-loop-at : goal.decreases-loop-at
decreases-loop-at l = moves l.at l.to
