use Rattle.std.proofs.Common.{length, ◌-◌}
use Rattle.trace_codec.proofs.WholeTraces.{HasCut}
use Rattle.trace_codec.proofs.whole.decode_all.Given as goal

abbrev pub invariant-loop-start : goal.invariant-loop-start
invariant-loop-start l = HasCut l.bytes l.commands l.start

abbrev pub decreases-loop-start : goal.decreases-loop-start
decreases-loop-start l = length l.bytes - l.start
