use Rattle.std.proofs.Common.{length}
use Rattle.trace_text.proofs.Texts.{HasRead}
use Rattle.trace_text.proofs.text.read_text.Given as goal

abbrev pub invariant-loop-left : goal.invariant-loop-left
invariant-loop-left l = HasRead l.bytes l.commands l.left l.number

abbrev pub decreases-loop-left : goal.decreases-loop-left
decreases-loop-left l = length l.left
