use Rattle.plan_choice.proofs.Counting.{AreCounted}
use Rattle.plan_choice.proofs.bounds.bytes_of.Given as goal

abbrev pub invariant-loop-command : goal.invariant-loop-command
invariant-loop-command l = AreCounted l.commands l.command-index l.bytes
