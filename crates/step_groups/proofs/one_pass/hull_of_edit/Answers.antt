use Rattle.std.proofs.Common.{◌≡◌, ◌∙◌, ap, rules}
use Rattle.std.specs.Prelude.{Err}
use Rattle.step_groups.specs.Judging.{rule_broken}
use Rattle.step_groups.proofs.Outlining.{named_within}
use Rattle.step_groups.proofs.one_pass.hull_of_edit.Goals as goal

pub returns-clause-filled : goal.returns-clause-filled
returns-clause-filled c = named_within c.args.bot c.of.result c.in_ok-at.at c.of.ensures.covers c.args.d c.in_ok-at.ensures.sum

pub returns-clause-voided : goal.returns-clause-voided
returns-clause-voided c = named_within c.args.bot c.of.result c.in_ok-at.at c.of.ensures.covers c.args.d c.in_ok-at.ensures.sum

pub returns-in_err-at-clause-fill : goal.returns-in_err-at-clause-fill
returns-in_err-at-clause-fill c = λ s all.
    let is : c.from_residual.result ≡ Err c.in_err-at.field-0.0 = search rules in
    ap rule_broken is ∙ c.in_err-at.ensures.fill s all

pub returns-in_err-at-clause-void : goal.returns-in_err-at-clause-void
returns-in_err-at-clause-void c = λ s all.
    let is : c.from_residual.result ≡ Err c.in_err-at.field-0.0 = search rules in
    ap rule_broken is ∙ c.in_err-at.ensures.void s all
