use Rattle.std.proofs.Common.{length, ◌-◌, not}
use Rattle.std.specs.Prelude.{◌==◌}
use Rattle.trace_text.proofs.Runs.{Pass}
use Rattle.trace_text.proofs.parts.find_byte.Given as goal

abbrev pub invariant-loop-len : goal.invariant-loop-len
invariant-loop-len l = Pass (λ b. not (b == l.byte)) l.bytes l.len

abbrev pub decreases-loop-len : goal.decreases-loop-len
decreases-loop-len l = length l.bytes - l.len
