use Rattle.std.proofs.Common.{◌≡◌, take}
use Rattle.nano_spec.specs.Printing.{print}
use Rattle.trace_text.proofs.print.print_trace.Given as goal

abbrev pub invariant-loop-command : goal.invariant-loop-command
invariant-loop-command l = l.text.items ≡ print (take l.command-index l.commands)
