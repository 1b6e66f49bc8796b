use Rattle.std.proofs.Common.{◌-◌, ◌*◌}
use Rattle.swarm_planner.specs.Lineup.{SpreadsOver}
use Rattle.swarm_planner.proofs.crew.spread.Given as goal

-- there is a bot in each of the first strips
abbrev pub invariant-loop-count : goal.invariant-loop-count
invariant-loop-count l = SpreadsOver l.initial.tape l.tape l.count (20 * (l.count - 1))
