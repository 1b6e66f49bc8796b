use Rattle.std.proofs.Common.{◌≡◌, ◌∙◌, ap, arith, sym, Ok, Bool, true, false, not, decimal}
use Rattle.std.specs.Str.{bytes_eq}
use Rattle.std.proofs.lemmas.Fmt.{parse-decimal}
use Rattle.std.proofs.lemmas.Slice.Eq.{bytes_eq-Decides}
use Rattle.nanobot_words.proofs.word.parse_number.Goals as goal

refuted : (b : Bool) → b ≡ true → true ≡ not b → ⊥
refuted true e h = cc
refuted false e h = cc

pub returns-in_default : goal.returns-in_default
returns-in_default c = λ n small e.
    let is = parse-decimal 32 n c.args.word.now c.parse.result small (omega arith) e c.parse.ensures.value.0 in
    let other = sym is ∙ c.in_default.is in
    cc

pub returns-then-ne : goal.returns-then-ne
returns-then-ne c = λ n small e.
    let is = parse-decimal 32 n c.args.word.now c.parse.result small (omega arith) e c.parse.ensures.value.0 in
    let both : Ok n ≡ Ok c.in-Ok.number = sym is ∙ c.in-Ok.is in
    let same : n ≡ c.in-Ok.number = cc in
    let text : c.format.result.now ≡ c.args.word.now = c.format.ensures.text ∙ (ap decimal (sym same) ∙ sym e) in
    let equal : bytes_eq c.format.result.now c.args.word.now ≡ true = (bytes_eq-Decides c.format.result.now c.args.word.now).1 text in
    refuted (bytes_eq c.format.result.now c.args.word.now) equal (sym c.if-ne.true ∙ c.ne.ensures)
