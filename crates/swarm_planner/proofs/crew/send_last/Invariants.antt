use Rattle.std.proofs.Common.{◌≡◌, ◌+◌, ◌≤◌}
use Rattle.plan_tape.specs.Leg.{gap}
use Rattle.swarm_planner.specs.Crew.{CrewGoes, places}
use Rattle.swarm_planner.specs.Lineup.{InLine, free_column, last_column, sent}
use Rattle.swarm_planner.proofs.crew.send_last.Given as goal

-- the last bot has made part of the path, and the rest is shorter by that
abbrev pub invariant-loop-at : goal.invariant-loop-at
invariant-loop-at l = record {
  goes : CrewGoes l.initial.tape l.tape (sent (places l.initial.tape.bots) l.at) (gap (last_column (places l.initial.tape.bots)) l.at);
  line : InLine l.tape;
  there : places l.tape.bots ≡ sent (places l.initial.tape.bots) l.at;
  free : free_column 1 (places l.initial.tape.bots) ≤ l.at;
  onward : gap (last_column (places l.initial.tape.bots)) l.at + gap l.at l.to ≡ gap (last_column (places l.initial.tape.bots)) l.to;
}

abbrev pub decreases-loop-at : goal.decreases-loop-at
decreases-loop-at l = gap l.at l.to
