use Rattle.std.proofs.Common.{length}
use Rattle.debug_script.proofs.Reading.{IsReading}
use Rattle.debug_script.proofs.read.read_script.Given as goal

abbrev pub invariant-loop-left : goal.invariant-loop-left
invariant-loop-left l = IsReading l.resolution l.bytes l.script.items l.left l.number

abbrev pub decreases-loop-left : goal.decreases-loop-left
decreases-loop-left l = length l.left
