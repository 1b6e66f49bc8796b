use Rattle.std.proofs.Common.{◌≡◌, ◌∙◌, [], ◌∷◌, decimal, None, rules, sym}
use Rattle.debug_script.proofs.Forms.{rest_is}
use Rattle.debug_script.proofs.line.three_numbers.Goals as goal

pub returns-in_err-y : goal.returns-in_err-y
returns-in_err-y c =
    let none : c.from_residual-in_err-y.result ≡ None = search rules in
    rw none (λ x y z fx fy fz e. c.in_err-y.ensures {u = tt} y (decimal z) [] fy (rest_is _ _ _ (decimal y ∷ decimal z ∷ []) (sym (c.in_ok-x.ensures {u = tt}).1 ∙ e)))
