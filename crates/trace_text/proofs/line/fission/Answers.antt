use Rattle.std.proofs.Common.{rules, ◌≡◌, [], ◌∷◌, refl, true, pos}
use Rattle.std.specs.Prelude.{int_le}
use Rattle.nano_spec.specs.LineForm.{Blanks, Number, readings}
use Rattle.trace_text.specs.Text.{fission_word}
use Rattle.trace_text.proofs.Fissions.{above, below, fits, no_number, no_shape, not_near}
use Rattle.trace_text.proofs.line.fission.Goals as goal

pub returns-in_default : goal.returns-in_default
returns-in_default c = no_shape (readings fission_word.form c.args.rest.now.bytes.now) (c.in_default.ensures (Blanks ∷ Number ∷ Blanks ∷ []))

pub returns-in_err-number : goal.returns-in_err-number
returns-in_err-number c = let no = no_number c.args.rest.now.bytes.now c.difference.new.self.bytes.now c.in-Some.difference _ c.in-Some.ensures c.in_err-number.ensures in search rules

pub returns-in_err-near : goal.returns-in_err-near
returns-in_err-near c = let no = not_near c.args.rest.now.bytes.now c.difference.new.self.bytes.now c.in-Some.difference c.in_ok-number.number c.in-Some.ensures c.in_ok-number.ensures c.in_err-near.ensures.0 in search rules

pub returns-then-number-lt0 : goal.returns-then-number-lt0
returns-then-number-lt0 c = below c.args.rest.now.bytes.now c.difference.new.self.bytes.now c.in-Some.difference c.in_ok-number.number c.in-Some.ensures c.in_ok-number.ensures (search rules)

pub returns-then-number-gt255 : goal.returns-then-number-gt255
returns-then-number-gt255 c = above c.args.rest.now.bytes.now c.difference.new.self.bytes.now c.in-Some.difference c.in_ok-number.number c.in-Some.ensures c.in_ok-number.ensures (search rules)

pub returns : goal.returns
returns c =
    let low : int_le (pos 0) c.in_ok-number.number ≡ true = search rules in
    let high : int_le c.in_ok-number.number (pos 255) ≡ true = search rules in
    let said = fits c.args.rest.now.bytes.now c.difference.new.self.bytes.now c.in-Some.difference c.in_ok-near.near c.in_ok-number.number c.in_ok-number.number c.in-Some.ensures c.in_ok-number.ensures c.in_ok-near.ensures.0 low high c.in_ok-near.ensures.1 refl in
    search rules
