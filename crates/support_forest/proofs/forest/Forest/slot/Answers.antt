use Rattle.std.proofs.Common.{ℕ, ◌≡◌, ◌∙◌, ap, sym, subst}
use Rattle.std.specs.Prelude.{MatchOption}
use Rattle.vox_geom.specs.Space.{IsInSpace}
use Rattle.support_forest.specs.ForestView.{ForestView, slot_for, IsSlotFor, IsVoidBrick}
use Rattle.support_forest.proofs.ForestView.{resolution_of, slot_shown, slot_matches}
use Rattle.support_forest.proofs.forest.Forest.slot.Goals as goal

pub slot-requires : goal.slot-requires
slot-requires c = subst (λ (r : ℕ). IsInSpace r c.args.c) (resolution_of c.self.inside.cells) (subst (λ (q : ForestView). IsInSpace q.matrix.resolution c.args.c) (sym c.self.view_is) c.requires.within)

pub returns-clause-value : goal.returns-clause-value
returns-clause-value c = subst (λ (q : ForestView). c.slot.result ≡ slot_for q c.args.c) c.self.view_is (c.slot.ensures.value ∙ slot_shown c.self.inside.cells c.self.inside.spent c.args.c)

pub returns-clause-slot : goal.returns-clause-slot
returns-clause-slot c =
    subst (λ (q : ForestView). MatchOption c.slot.result (IsVoidBrick q.matrix c.args.c) (IsSlotFor q c.args.c)) c.self.view_is
    (slot_matches c.self.inside.cells c.self.inside.spent c.args.c c.slot.result (c.self.invariant (ap (λ (q : ForestView). q.spent) c.self.view_is ∙ c.requires.stands)) c.slot.ensures.store
    (subst (λ (r : ℕ). IsInSpace r c.args.c) (resolution_of c.self.inside.cells) (subst (λ (q : ForestView). IsInSpace q.matrix.resolution c.args.c) (sym c.self.view_is) c.requires.within))
    c.slot.ensures.value c.slot.ensures.live)
