use Rattle.std.proofs.Common.{rules, refl}
use Rattle.trace_text.proofs.Differences.{last_ends, last_goes_on, no_last}
use Rattle.trace_text.proofs.line.last_number.Goals as goal

pub returns-in_default : goal.returns-in_default
returns-in_default c = (no_last c.args.rest.now.bytes.now c.skip_blanks.new.self.bytes.now c.number.new.self.bytes.now c.skip_blanks.ensures.readings c.in_default.ensures, refl)

pub returns-then-ends : goal.returns-then-ends
returns-then-ends c = last_ends c.args.rest.now.bytes.now c.skip_blanks.new.self.bytes.now c.number.new.self.bytes.now c.in-Some.number _ (search rules) c.skip_blanks.ensures.readings c.in-Some.ensures c.if-ends.ensures

pub returns-else-ends : goal.returns-else-ends
returns-else-ends c = (last_goes_on c.args.rest.now.bytes.now c.skip_blanks.new.self.bytes.now c.number.new.self.bytes.now c.in-Some.number c.skip_blanks.ensures.readings c.in-Some.ensures c.if-ends.ensures, refl)
