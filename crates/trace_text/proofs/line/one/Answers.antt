use Rattle.trace_text.proofs.Differences.{one_ends, one_goes_on}
use Rattle.std.proofs.Common.{refl}
use Rattle.trace_text.proofs.line.one.Goals as goal

pub returns-then-ends : goal.returns-then-ends
returns-then-ends c = one_ends c.args.rest.now.bytes.now c.difference.new.self.bytes.now c.in-Some.difference c.in-Some.ensures c.if-ends.ensures

pub returns-else-ends : goal.returns-else-ends
returns-else-ends c = (one_goes_on c.args.rest.now.bytes.now c.difference.new.self.bytes.now c.in-Some.difference c.in-Some.ensures c.if-ends.ensures, refl)
