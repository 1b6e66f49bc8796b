use Rattle.std.proofs.Common.{◌≡◌, ◌+◌, ◌≤◌, sym, subst, ap, ◌∙◌, arith, refl, [], ◌∷◌}
use Rattle.nano_spec.specs.Grounded.{FirstUngrounded}
use Rattle.std.specs.Prelude.{None}
use Rattle.support_forest.specs.Grid.{Grid}
use Rattle.support_forest.specs.FillingOne.{HaveFilledOne}
use Rattle.support_forest.specs.ForestView.{ForestView, MayAdd, AreAdded, matrix_of}
use Rattle.support_forest.proofs.FillingOne.{unless, when}
use Rattle.support_forest.proofs.ForestView.{can_add, exact_filled, few_filled, filled_alone_added, shown, still_held}
use Rattle.support_forest.proofs.forest.Forest.try_fill.Goals as goal

pub try_fill-requires : goal.try_fill-requires
try_fill-requires g c =
    let can = can_add c.self.inside.cells (c.args.c ∷ []) (c.self.invariant (ap (λ (q : ForestView). q.spent) c.self.view_is ∙ c.requires.stands)) (subst (λ (q : ForestView). MayAdd q.matrix (c.args.c ∷ [])) (sym c.self.view_is) c.requires.cell) in
    record { exact = can.exact; within = can.space _ (0, omega arith, refl); void = can.void _ (0, omega arith, refl) }

pub invariant_of-self : goal.invariant_of-self
invariant_of-self g c = λ _. exact_filled c.try_fill.result c.self.inside.cells c.try_fill.new.cells c.args.c c.args.steps.now c.try_fill.new.steps (c.self.invariant (ap (λ (q : ForestView). q.spent) c.self.view_is ∙ c.requires.stands)) c.try_fill.ensures.filled

pub returns-clause-value : goal.returns-clause-value
returns-clause-value g c = λ e.
    let done = when c.try_fill.result (HaveFilledOne c.self.inside.cells c.try_fill.new.cells c.args.c c.args.steps.now c.try_fill.new.steps) ((c.try_fill.new.cells ≡ c.self.inside.cells) × (c.try_fill.new.steps ≤ c.args.steps.now + 6)) e c.try_fill.ensures.filled in
    subst (λ (q : ForestView). AreAdded q.matrix (matrix_of c.try_fill.new.cells) (c.args.c ∷ [])) c.self.view_is
    (filled_alone_added c.self.inside.cells c.try_fill.new.cells c.args.c c.args.steps.now c.try_fill.new.steps (subst (λ (q : ForestView). MayAdd q.matrix (c.args.c ∷ [])) (sym c.self.view_is) c.requires.cell) done (c.self.invariant (ap (λ (q : ForestView). q.spent) c.self.view_is ∙ c.requires.stands)))

pub returns-clause-held : goal.returns-clause-held
returns-clause-held g c = λ e h.
    let done = when c.try_fill.result (HaveFilledOne c.self.inside.cells c.try_fill.new.cells c.args.c c.args.steps.now c.try_fill.new.steps) ((c.try_fill.new.cells ≡ c.self.inside.cells) × (c.try_fill.new.steps ≤ c.args.steps.now + 6)) e c.try_fill.ensures.filled in
    still_held c.self.inside.cells c.try_fill.new.cells c.args.c (c.self.invariant (ap (λ (q : ForestView). q.spent) c.self.view_is ∙ c.requires.stands)) done.exact done.resolution done.kept (λ o. let held = c.try_fill.ensures.held e in absurd (omega arith))
    (subst (λ (q : ForestView). FirstUngrounded q.matrix None) (sym c.self.view_is) h)

pub returns-clause-stays : goal.returns-clause-stays
returns-clause-stays g c = λ e.
    let still = unless c.try_fill.result (HaveFilledOne c.self.inside.cells c.try_fill.new.cells c.args.c c.args.steps.now c.try_fill.new.steps) ((c.try_fill.new.cells ≡ c.self.inside.cells) × (c.try_fill.new.steps ≤ c.args.steps.now + 6)) e c.try_fill.ensures.filled in
    ap (λ (x : Grid). shown x c.self.inside.spent) still.0 ∙ c.self.view_is

pub returns-clause-stands : goal.returns-clause-stands
returns-clause-stands g c = ap (λ (q : ForestView). q.spent) c.self.view_is ∙ c.requires.stands

pub returns-clause-touches : goal.returns-clause-touches
returns-clause-touches g c = few_filled c.try_fill.result c.self.inside.cells c.try_fill.new.cells c.args.c c.args.steps.now c.try_fill.new.steps c.try_fill.ensures.filled
