use Rattle.std.proofs.Common.{ℕ, ◌≤◌, ◌+◌, ◌∙◌, ap, sym, subst, None}
use Rattle.nano_spec.specs.Grounded.{FirstUngrounded}
use Rattle.nano_spec.specs.Model.{volume}
use Rattle.support_forest.specs.ForestView.{ForestView}
use Rattle.support_forest.proofs.ForestView.{resolution_of, first_is, floating_none}
use Rattle.support_forest.proofs.forest.Forest.first_floating.Goals as goal

pub returns-then-floating-eq0-clause-value : goal.returns-then-floating-eq0-clause-value
returns-then-floating-eq0-clause-value g c = subst (λ (q : ForestView). FirstUngrounded q.matrix None) c.self.view_is ((floating_none c.self.inside.cells c.floating.result (c.self.invariant (ap (λ (q : ForestView). q.spent) c.self.view_is ∙ c.requires)) c.floating.ensures).0 c.if-floating-eq0.true)

pub returns-clause-value : goal.returns-clause-value
returns-clause-value g c = subst (λ (q : ForestView). FirstUngrounded q.matrix c.first_floating.result) c.self.view_is (first_is c.self.inside.cells c.first_floating.result (c.self.invariant (ap (λ (q : ForestView). q.spent) c.self.view_is ∙ c.requires)) c.first_floating.ensures.value)

pub returns-clause-touches : goal.returns-clause-touches
returns-clause-touches g c = subst (λ (r : ℕ). c.first_floating.new.steps ≤ c.args.steps.now + volume r) (sym (resolution_of c.self.inside.cells) ∙ ap (λ (q : ForestView). q.matrix.resolution) c.self.view_is) c.first_floating.ensures.touches
