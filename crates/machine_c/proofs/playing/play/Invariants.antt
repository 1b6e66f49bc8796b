use Rattle.std.proofs.Common.{◌-◌}
use Rattle.machine_c.proofs.Played.{HavePlayed}
use Rattle.machine_c.proofs.playing.play.Given as goal

-- the steps so far are made
abbrev pub invariant-loop-made : goal.invariant-loop-made
invariant-loop-made l = HavePlayed l.initial.machine l.trace l.most l.machine l.made l.used

abbrev pub decreases-loop-made : goal.decreases-loop-made
decreases-loop-made l = l.most - l.made
