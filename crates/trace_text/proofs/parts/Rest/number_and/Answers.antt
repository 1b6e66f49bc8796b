use Rattle.std.proofs.Common.{rules, refl, true, false}
use Rattle.trace_text.proofs.Readings.{no_number_there, number_there}
use Rattle.trace_text.proofs.parts.Rest.number_and.Goals as goal

pub returns-in_err-number : goal.returns-in_err-number
returns-in_err-number c = let no = no_number_there c.args.mark c.args.self.now.bytes.now c.skip_blanks.new.self.bytes.now c.number.new.self.bytes.now c.requires.no_digit c.skip_blanks.ensures.readings c.in_err-number.ensures in rw c.from_residual.ensures no

pub returns-then-not-mark : goal.returns-then-not-mark
returns-then-not-mark c = number_there c.args.mark c.args.self.now.bytes.now c.skip_blanks.new.self.bytes.now c.number.new.self.bytes.now c.skip_blanks-2.new.self.bytes.now c.mark.new.self.bytes.now c.in_ok-number.number c.in_ok-number.number false refl c.requires.no_blank c.requires.no_digit c.skip_blanks.ensures.readings c.in_ok-number.ensures c.skip_blanks-2.ensures.readings c.if-not-mark.ensures.readings

pub returns : goal.returns
returns c = number_there c.args.mark c.args.self.now.bytes.now c.skip_blanks.new.self.bytes.now c.number.new.self.bytes.now c.skip_blanks-2.new.self.bytes.now c.mark.new.self.bytes.now c.in_ok-number.number _ true (search rules) c.requires.no_blank c.requires.no_digit c.skip_blanks.ensures.readings c.in_ok-number.ensures c.skip_blanks-2.ensures.readings c.if-not-mark.ensures.readings
