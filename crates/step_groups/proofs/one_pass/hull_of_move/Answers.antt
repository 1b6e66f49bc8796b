use Rattle.std.proofs.Common.{◌≡◌, ◌∙◌, ap, rules}
use Rattle.std.specs.Prelude.{Err}
use Rattle.step_groups.specs.Judging.{rule_broken}
use Rattle.step_groups.proofs.Outlining.{way_within}
use Rattle.step_groups.proofs.one_pass.hull_of_move.Goals as goal

pub returns-clause-hull : goal.returns-clause-hull
returns-clause-hull g c = way_within c.args.bot c.of.result c.in_ok-to.to c.of.ensures.covers c.args.d c.in_ok-to.ensures.sum

pub returns-in_err-to-clause-value : goal.returns-in_err-to-clause-value
returns-in_err-to-clause-value g c = λ s all.
    let is : c.from_residual.result ≡ Err c.in_err-to.field-0.0 = search rules in
    ap rule_broken is ∙ c.in_err-to.ensures.value s all
