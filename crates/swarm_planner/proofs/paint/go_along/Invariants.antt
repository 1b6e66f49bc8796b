use Rattle.std.proofs.Common.{◌≡◌, ◌+◌}
use Rattle.plan_tape.specs.Leg.{component_of, gap, put}
use Rattle.plan_tape.specs.Progress.{spot}
use Rattle.swarm_planner.specs.Crew.{RowGoes}
use Rattle.swarm_planner.proofs.paint.go_along.Given as goal

-- the row has made part of the path, and the rest is shorter by that
abbrev pub invariant-loop-at : goal.invariant-loop-at
invariant-loop-at l = record {
  goes : RowGoes l.initial.tape l.tape (put l.axis (spot l.initial.tape.bots) l.at) (gap (component_of l.axis (spot l.initial.tape.bots)) l.at);
  onward : gap (component_of l.axis (spot l.initial.tape.bots)) l.at + gap l.at l.to ≡ gap (component_of l.axis (spot l.initial.tape.bots)) l.to;
}

abbrev pub decreases-loop-at : goal.decreases-loop-at
decreases-loop-at l = gap l.at l.to
