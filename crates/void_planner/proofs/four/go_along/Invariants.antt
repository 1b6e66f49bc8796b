use Rattle.std.proofs.Common.{◌≡◌, ◌+◌}
use Rattle.plan_tape.specs.Leg.{component_of, moves, put}
use Rattle.plan_tape.specs.Progress.{spot}
use Rattle.plan_tape.specs.Fissions.{fissions}
use Rattle.void_planner.specs.Square.{IsRectangle}
use Rattle.void_planner.specs.Tiles.{far_of}
use Rattle.void_planner.proofs.four.go_along.Given as goal

-- the first bot has made part of the path, and the remaining moves and the made ones sum up to it
abbrev pub invariant-loop-at : goal.invariant-loop-at
invariant-loop-at l = record {
  source : l.tape.source ≡ l.initial.tape.source;
  matrix : l.tape.matrix ≡ l.initial.tape.matrix;
  square : IsRectangle l.tape (far_of l.initial.tape.matrix.resolution) (far_of l.initial.tape.matrix.resolution);
  there : spot l.tape.bots ≡ put l.axis (spot l.initial.tape.bots) l.at;
  fissions_are : fissions l.tape ≡ fissions l.initial.tape;
  steps : l.tape.steps + moves l.at l.to ≡ l.initial.tape.steps + moves (component_of l.axis (spot l.initial.tape.bots)) l.to;
}

abbrev pub decreases-loop-at : goal.decreases-loop-at
decreases-loop-at l = moves l.at l.to
