use Rattle.std.proofs.Common.{take}
use Rattle.nano_spec.specs.Cutting.{Cutting}
use Rattle.trace_codec.proofs.whole.encode_all.Given as goal

abbrev pub invariant-loop-command : goal.invariant-loop-command
invariant-loop-command l = Cutting l.bytes.items (take l.command-index l.commands)
