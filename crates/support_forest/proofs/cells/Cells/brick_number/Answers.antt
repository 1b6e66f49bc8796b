use Rattle.std.proofs.Common.{ℕ, sym, ap, subst, ◌∙◌, arith}
use Rattle.vox_geom.specs.Space.{IsInSpace}
use Rattle.support_forest.specs.Grid.{Grid, side, brick}
use Rattle.support_forest.proofs.Store.{brick_inside, few_bricks, number_is}
use Rattle.support_forest.proofs.cells.Cells.brick_number.Goals as goal

pub place-requires-clause-resolution : goal.place-requires-clause-resolution
place-requires-clause-resolution c = let inside = c.self.inside in let invariant = c.self.invariant.0 in let bricks_few = few_bricks inside.resolution c.self.invariant.1.0.few in omega arith

pub place-requires-clause-within : goal.place-requires-clause-within
place-requires-clause-within c =
    let inside = c.self.inside in
    subst (λ (n : ℕ). IsInSpace n (brick c.args.at)) (sym c.self.invariant.0) (brick_inside inside.resolution c.args.at (subst (λ (q : Grid). IsInSpace q.resolution c.args.at) (sym c.self.view_is) c.requires))

pub returns-clause-value : goal.returns-clause-value
returns-clause-value c =
    let inside = c.self.inside in
    number_is c.args.self.now.resolution inside.side c.place.result c.args.at (c.self.invariant.0 ∙ ap (λ (q : Grid). side q.resolution) c.self.view_is) c.place.ensures.value
