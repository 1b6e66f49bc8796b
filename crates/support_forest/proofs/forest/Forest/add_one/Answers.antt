use Rattle.std.proofs.Common.{sym, subst, ap, ◌∙◌, [], ◌∷◌}
use Rattle.support_forest.specs.ForestView.{ForestView, MayAdd, AreAdded, IsCheap, matrix_of}
use Rattle.support_forest.proofs.ForestView.{can_add, are_added, added_cheap}
use Rattle.support_forest.proofs.forest.Forest.add_one.Goals as goal

pub add_cell-requires : goal.add_cell-requires
add_cell-requires g c = can_add c.self.inside.cells (c.args.c ∷ []) (c.self.invariant c.if-self.false) (subst (λ (q : ForestView). MayAdd q.matrix (c.args.c ∷ [])) (sym c.self.view_is) (c.requires (sym (ap (λ (q : ForestView). q.spent) c.self.view_is) ∙ c.if-self.false)))

pub returns-in-Ok-clause-value : goal.returns-in-Ok-clause-value
returns-in-Ok-clause-value g c = subst (λ (q : ForestView). AreAdded q.matrix (matrix_of c.add_cell.new.cells) (c.args.c ∷ [])) c.self.view_is (are_added c.self.inside.cells c.add_cell.new.cells (c.args.c ∷ []) 20 c.args.steps.now c.add_cell.new.steps (c.self.invariant c.if-self.false) c.in-Ok.ensures)

pub returns-in-Ok-clause-touches : goal.returns-in-Ok-clause-touches
returns-in-Ok-clause-touches g c = subst (λ (q : ForestView). IsCheap q.matrix (matrix_of c.add_cell.new.cells) (c.args.c ∷ []) 100 c.args.steps.now c.add_cell.new.steps) c.self.view_is (added_cheap c.self.inside.cells c.add_cell.new.cells (c.args.c ∷ []) c.args.steps.now c.add_cell.new.steps (c.self.invariant c.if-self.false) c.in-Ok.ensures)
