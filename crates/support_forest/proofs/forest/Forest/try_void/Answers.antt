use Rattle.std.proofs.Common.{◌≡◌, ◌+◌, ◌≤◌, sym, subst, ap, ◌∙◌, arith, refl, [], ◌∷◌}
use Rattle.nano_spec.specs.Grounded.{FirstUngrounded}
use Rattle.std.specs.Prelude.{None}
use Rattle.support_forest.specs.Grid.{Grid}
use Rattle.support_forest.specs.VoidingOne.{HaveVoidedOne}
use Rattle.support_forest.specs.ForestView.{ForestView, MayRemove, AreRemoved, matrix_of}
use Rattle.support_forest.proofs.FillingOne.{unless, when}
use Rattle.support_forest.proofs.ForestView.{can_remove, exact_voided, few_voided, voided_alone_removed, shown, still_held}
use Rattle.support_forest.proofs.forest.Forest.try_void.Goals as goal

pub try_void-requires : goal.try_void-requires
try_void-requires g c =
    let can = can_remove c.self.inside.cells (c.args.c ∷ []) (c.self.invariant (ap (λ (q : ForestView). q.spent) c.self.view_is ∙ c.requires.stands)) (subst (λ (q : ForestView). MayRemove q.matrix (c.args.c ∷ [])) (sym c.self.view_is) c.requires.cell) in
    record { exact = can.exact; full = can.full _ (0, omega arith, refl) }

pub invariant_of-self : goal.invariant_of-self
invariant_of-self g c = λ _. exact_voided c.try_void.result c.self.inside.cells c.try_void.new.cells c.args.c c.args.steps.now c.try_void.new.steps (c.self.invariant (ap (λ (q : ForestView). q.spent) c.self.view_is ∙ c.requires.stands)) c.try_void.ensures

pub returns-clause-value : goal.returns-clause-value
returns-clause-value g c = λ e.
    let done = when c.try_void.result (HaveVoidedOne c.self.inside.cells c.try_void.new.cells c.args.c c.args.steps.now c.try_void.new.steps) ((c.try_void.new.cells ≡ c.self.inside.cells) × (c.try_void.new.steps ≤ c.args.steps.now + 6)) e c.try_void.ensures in
    subst (λ (q : ForestView). AreRemoved q.matrix (matrix_of c.try_void.new.cells) (c.args.c ∷ [])) c.self.view_is
    (voided_alone_removed c.self.inside.cells c.try_void.new.cells c.args.c c.args.steps.now c.try_void.new.steps (subst (λ (q : ForestView). MayRemove q.matrix (c.args.c ∷ [])) (sym c.self.view_is) c.requires.cell) done (c.self.invariant (ap (λ (q : ForestView). q.spent) c.self.view_is ∙ c.requires.stands)))

pub returns-clause-held : goal.returns-clause-held
returns-clause-held g c = λ e h.
    let done = when c.try_void.result (HaveVoidedOne c.self.inside.cells c.try_void.new.cells c.args.c c.args.steps.now c.try_void.new.steps) ((c.try_void.new.cells ≡ c.self.inside.cells) × (c.try_void.new.steps ≤ c.args.steps.now + 6)) e c.try_void.ensures in
    still_held c.self.inside.cells c.try_void.new.cells c.args.c (c.self.invariant (ap (λ (q : ForestView). q.spent) c.self.view_is ∙ c.requires.stands)) done.exact done.resolution done.kept (λ o. let gone = done.gone in absurd (omega arith))
    (subst (λ (q : ForestView). FirstUngrounded q.matrix None) (sym c.self.view_is) h)

pub returns-clause-stays : goal.returns-clause-stays
returns-clause-stays g c = λ e.
    let still = unless c.try_void.result (HaveVoidedOne c.self.inside.cells c.try_void.new.cells c.args.c c.args.steps.now c.try_void.new.steps) ((c.try_void.new.cells ≡ c.self.inside.cells) × (c.try_void.new.steps ≤ c.args.steps.now + 6)) e c.try_void.ensures in
    ap (λ (x : Grid). shown x c.self.inside.spent) still.0 ∙ c.self.view_is

pub returns-clause-stands : goal.returns-clause-stands
returns-clause-stands g c = ap (λ (q : ForestView). q.spent) c.self.view_is ∙ c.requires.stands

pub returns-clause-touches : goal.returns-clause-touches
returns-clause-touches g c = few_voided c.try_void.result c.self.inside.cells c.try_void.new.cells c.args.c c.args.steps.now c.try_void.new.steps c.try_void.ensures
