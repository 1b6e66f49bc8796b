use Rattle.floor_planner.specs.Floor.{IsSweptTo}
use Rattle.floor_planner.proofs.sweep.fill_floor.Given as goal

abbrev pub invariant-loop-x : goal.invariant-loop-x
invariant-loop-x l = record { swept : IsSweptTo l.tape l.target l.x 0 }
