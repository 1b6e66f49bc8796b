use Rattle.std.proofs.Common.{length, ◌-◌}
use Rattle.nano_spec.specs.LineForm.{is_letter}
use Rattle.trace_text.proofs.Runs.{Pass}
use Rattle.trace_text.proofs.parts.letters.Given as goal

abbrev pub invariant-loop-len : goal.invariant-loop-len
invariant-loop-len l = Pass is_letter l.bytes l.len

abbrev pub decreases-loop-len : goal.decreases-loop-len
decreases-loop-len l = length l.bytes - l.len
