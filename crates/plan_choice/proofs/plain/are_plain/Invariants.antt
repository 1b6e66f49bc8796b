use Rattle.plan_choice.proofs.Scanned.{ArePlainTo}
use Rattle.plan_choice.proofs.plain.are_plain.Given as goal

abbrev pub invariant-loop-command : goal.invariant-loop-command
invariant-loop-command l = ArePlainTo l.commands l.command-index
