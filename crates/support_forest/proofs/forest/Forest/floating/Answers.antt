use Rattle.std.proofs.Common.{◌≡◌, ◌∙◌, ap, subst, None}
use Rattle.std.specs.Prelude.{◌↔◌}
use Rattle.nano_spec.specs.Grounded.{FirstUngrounded}
use Rattle.support_forest.specs.ForestView.{ForestView, IsFloatingCount, HasLevels}
use Rattle.support_forest.proofs.ForestView.{floating_is, floating_none, levels_of}
use Rattle.support_forest.proofs.forest.Forest.floating.Goals as goal

pub returns-clause-value : goal.returns-clause-value
returns-clause-value c = subst (λ (q : ForestView). IsFloatingCount q.matrix c.floating.result) c.self.view_is (floating_is c.self.inside.cells c.floating.result (c.self.invariant (ap (λ (q : ForestView). q.spent) c.self.view_is ∙ c.requires)) c.floating.ensures)

pub returns-clause-none : goal.returns-clause-none
returns-clause-none c = subst (λ (q : ForestView). (c.floating.result ≡ 0) ↔ FirstUngrounded q.matrix None) c.self.view_is (floating_none c.self.inside.cells c.floating.result (c.self.invariant (ap (λ (q : ForestView). q.spent) c.self.view_is ∙ c.requires)) c.floating.ensures)

pub returns-clause-levels : goal.returns-clause-levels
returns-clause-levels c = subst (λ (q : ForestView). HasLevels q.matrix) c.self.view_is (levels_of c.self.inside.cells (c.self.invariant (ap (λ (q : ForestView). q.spent) c.self.view_is ∙ c.requires)))
