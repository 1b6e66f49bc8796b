use Rattle.std.proofs.Common.{◌≡◌, ◌∙◌, arith, sym, Ok}
use Rattle.std.proofs.lemmas.Fmt.{parse-decimal}
use Rattle.debug_script.proofs.Numbers.{digits_are_text, same_digits}
use Rattle.debug_script.proofs.line.number.Goals as goal

pub returns-in_default : goal.returns-in_default
returns-in_default c = λ n few e. (c.in_default.ensures {u = tt}).cases.0 (digits_are_text n c.args.part.now few e)

pub returns-in_default-parse : goal.returns-in_default-parse
returns-in_default-parse c = λ n few e.
    let text = (c.in-Ok.ensures {u = tt}).cases.0 in
    let is = parse-decimal 32 n c.in-Ok.text.now c.parse.result (omega (arith, few)) (omega arith) (text ∙ e) c.parse.ensures.value.0 in
    let other = sym is ∙ c.in_default-parse.is in
    cc

pub returns-then-number-gt99999 : goal.returns-then-number-gt99999
returns-then-number-gt99999 c = λ n few e.
    let text = (c.in-Ok.ensures {u = tt}).cases.0 in
    let is = parse-decimal 32 n c.in-Ok.text.now c.parse.result (omega (arith, few)) (omega arith) (text ∙ e) c.parse.ensures.value.0 in
    let both : Ok n ≡ Ok c.in-Ok-parse.number = sym is ∙ c.in-Ok-parse.is in
    let same : n ≡ c.in-Ok-parse.number = cc in
    let more = c.if-number-gt99999.true in
    omega (arith, same, few, more)

pub returns-then-ne : goal.returns-then-ne
returns-then-ne c = λ n few e.
    let text = (c.in-Ok.ensures {u = tt}).cases.0 in
    let is = parse-decimal 32 n c.in-Ok.text.now c.parse.result (omega (arith, few)) (omega arith) (text ∙ e) c.parse.ensures.value.0 in
    let both : Ok n ≡ Ok c.in-Ok-parse.number = sym is ∙ c.in-Ok-parse.is in
    let same : n ≡ c.in-Ok-parse.number = cc in
    same_digits n c.in-Ok-parse.number c.in-Ok.text.now c.args.part.now c.format.result.now same e text c.format.ensures.text (sym c.if-ne.true ∙ c.ne.ensures)
