use Rattle.std.proofs.Common.{sym, subst, ap, ◌∙◌, [], ◌∷◌}
use Rattle.support_forest.specs.ForestView.{ForestView, MayRemove, AreRemoved, IsCheap, matrix_of}
use Rattle.support_forest.proofs.ForestView.{can_remove, are_removed, removed_cheap}
use Rattle.support_forest.proofs.forest.Forest.remove_one.Goals as goal

pub remove_cell-requires : goal.remove_cell-requires
remove_cell-requires g c = can_remove c.self.inside.cells (c.args.c ∷ []) (c.self.invariant c.if-self.false) (subst (λ (q : ForestView). MayRemove q.matrix (c.args.c ∷ [])) (sym c.self.view_is) (c.requires (sym (ap (λ (q : ForestView). q.spent) c.self.view_is) ∙ c.if-self.false)))

pub returns-in-Ok-clause-value : goal.returns-in-Ok-clause-value
returns-in-Ok-clause-value g c = subst (λ (q : ForestView). AreRemoved q.matrix (matrix_of c.remove_cell.new.cells) (c.args.c ∷ [])) c.self.view_is (are_removed c.self.inside.cells c.remove_cell.new.cells (c.args.c ∷ []) 62 c.args.steps.now c.remove_cell.new.steps (c.self.invariant c.if-self.false) c.in-Ok.ensures)

pub returns-in-Ok-clause-touches : goal.returns-in-Ok-clause-touches
returns-in-Ok-clause-touches g c = subst (λ (q : ForestView). IsCheap q.matrix (matrix_of c.remove_cell.new.cells) (c.args.c ∷ []) 100 c.args.steps.now c.remove_cell.new.steps) c.self.view_is (removed_cheap c.self.inside.cells c.remove_cell.new.cells (c.args.c ∷ []) c.args.steps.now c.remove_cell.new.steps (c.self.invariant c.if-self.false) c.in-Ok.ensures)
