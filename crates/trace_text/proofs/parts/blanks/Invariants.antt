use Rattle.std.proofs.Common.{length, ◌-◌}
use Rattle.nano_spec.specs.LineForm.{is_blank}
use Rattle.trace_text.proofs.Runs.{Pass}
use Rattle.trace_text.proofs.parts.blanks.Given as goal

abbrev pub invariant-loop-len : goal.invariant-loop-len
invariant-loop-len l = Pass is_blank l.bytes l.len

abbrev pub decreases-loop-len : goal.decreases-loop-len
decreases-loop-len l = length l.bytes - l.len
