use Rattle.floor_planner.specs.Floor.{IsSweptTo}
use Rattle.floor_planner.proofs.sweep.fill_row.Given as goal

abbrev pub invariant-loop-z : goal.invariant-loop-z
invariant-loop-z l = record { swept : IsSweptTo l.tape l.target l.x l.z }
