use Rattle.std.proofs.Common.{ap, ◌∙◌, sym, subst, ◌≡◌}
use Rattle.nano_spec.specs.Profile.{is_allowed}
use Rattle.step_groups.specs.Judging.{act, edit_of, rule_broken, first_fault, later_rules}
use Rattle.step_groups.proofs.OnlyOne.{allowed, by_kind}
use Rattle.step_groups.proofs.single.judge_edit.Goals as goal

pub returns-then-allows-clause-value : goal.returns-then-allows-clause-value
returns-then-allows-clause-value c = λ harmonics energy.
    allowed c.args.planes.now harmonics c.args.profile c.args.bot (edit_of c.args.full c.args.d) c.args.step (rule_broken c.named_by.result) (ap (is_allowed c.args.profile) (sym c.edit.ensures) ∙ (sym c.allows.ensures ∙ c.if-allows.true))
    (λ s all.
    subst (λ d. rule_broken c.named_by.result ≡ first_fault (record s { matrix = c.args.planes.now }) all c.args.step (act c.args.bot (edit_of c.args.full d)) later_rules) c.diff.ensures.value
    (by_kind (λ k. rule_broken c.named_by.result ≡ first_fault (record s { matrix = c.args.planes.now }) all c.args.step (act c.args.bot k) later_rules) c.diff.result c.args.full (c.named_by.ensures.fill s all) (c.named_by.ensures.void s all)))
    energy
