use Rattle.std.proofs.Common.{ℕ, sym, subst, ap, ◌∙◌}
use Rattle.vox_geom.specs.Region.{span}
use Rattle.vox_geom.specs.Space.{IsInSpace}
use Rattle.support_forest.specs.ForestView.{ForestView, IsVoided, IsVoidedCheaply, matrix_of}
use Rattle.support_forest.proofs.ForestView.{are_voided, resolution_of, voided_cheaply}
use Rattle.support_forest.proofs.forest.Forest.remove_region.Goals as goal

pub remove_region-requires-clause-within : goal.remove_region-requires-clause-within
remove_region-requires-clause-within g c =
    subst (λ (r : ℕ). IsInSpace r c.args.b.now.high) (resolution_of c.self.inside.cells)
    (subst (λ (q : ForestView). IsInSpace q.matrix.resolution c.args.b.now.high) (sym c.self.view_is) (c.requires (sym (ap (λ (q : ForestView). q.spent) c.self.view_is) ∙ c.if-self.false)))

pub returns-in-Ok-clause-value : goal.returns-in-Ok-clause-value
returns-in-Ok-clause-value g c = subst (λ (q : ForestView). IsVoided q.matrix (matrix_of c.remove_region.new.cells) (span c.args.b.now)) c.self.view_is (are_voided c.self.inside.cells c.remove_region.new.cells c.args.b.now _ c.args.steps.now c.remove_region.new.steps (c.self.invariant c.if-self.false) c.in-Ok.ensures)

pub returns-in-Ok-clause-touches : goal.returns-in-Ok-clause-touches
returns-in-Ok-clause-touches g c = subst (λ (q : ForestView). IsVoidedCheaply q.matrix (matrix_of c.remove_region.new.cells) (span c.args.b.now) c.args.steps.now c.remove_region.new.steps) c.self.view_is (voided_cheaply c.self.inside.cells c.remove_region.new.cells c.args.b.now c.args.steps.now c.remove_region.new.steps (c.self.invariant c.if-self.false) c.in-Ok.ensures)
