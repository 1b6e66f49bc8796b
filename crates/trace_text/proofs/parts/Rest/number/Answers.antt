use Rattle.std.proofs.Common.{rules, ap, ◌∙◌}
use Rattle.trace_text.specs.Parts.{longest}
use Rattle.trace_text.proofs.Readings.{minus_number_is, plain_number_is}
use Rattle.trace_text.proofs.parts.Rest.number.Goals as goal

pub returns-then-mark : goal.returns-then-mark
returns-then-mark c = minus_number_is c.args.self.now.bytes.now c.mark.new.self.bytes.now c.digits.new.self.bytes.now c.in_ok-number.number _ (search rules) (c.mark.ensures.yes c.if-mark.true) c.in_ok-number.ensures.value

pub returns : goal.returns
returns c =
    let no = c.mark.ensures.no c.if-mark.false in
    plain_number_is c.args.self.now.bytes.now c.digits-2.new.self.bytes.now c.in_ok-number-2.number _ (search rules) no.1 (c.in_ok-number-2.ensures.value ∙ ap (longest 3 0) no.0)
