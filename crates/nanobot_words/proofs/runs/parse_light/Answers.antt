use Rattle.std.proofs.Common.{◌≡◌, None, rules}
use Rattle.nanobot_words.proofs.Parsed.{light_operands}
use Rattle.nanobot_words.proofs.runs.parse_light.Goals as goal

pub returns-in_err-source : goal.returns-in_err-source
returns-in_err-source c =
    let none : c.from_residual-in_err-source.result ≡ None = search rules in
    rw none (λ s t b row. c.in_err-source.ensures {u = tt} s t b (light_operands _ _ _ _ _ _ (c.in_ok-first.ensures {u = tt}) s t b row))
