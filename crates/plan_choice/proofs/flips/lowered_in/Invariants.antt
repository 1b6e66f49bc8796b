use Rattle.std.proofs.Common.{◌≡◌, false, length}
use Rattle.plan_choice.proofs.flips.lowered_in.Given as goal

abbrev pub invariant-loop-rest : goal.invariant-loop-rest
invariant-loop-rest g l = l.machine.spent ≡ false

abbrev pub decreases-loop-rest : goal.decreases-loop-rest
decreases-loop-rest g l = length l.rest
