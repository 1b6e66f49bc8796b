use Rattle.std.proofs.Common.{◌≡◌, ℕ, ◌/◌, ◌%◌, ◌∙◌, arith, subst, sym}
use Rattle.std.specs.Prelude.{◌==◌}
use Rattle.support_forest.specs.Grid.{side as side_of}
use Rattle.support_forest.specs.Indices.{voxel_in}
use Rattle.support_forest.proofs.Voxels.{floor_there, raised_there, some_side}
use Rattle.support_forest.proofs.cells.Cells.is_on_floor.Goals as goal

pub nonzero_div-result-then-index-eq0 : goal.nonzero_div-result-then-index-eq0
nonzero_div-result-then-index-eq0 c = let some = some_side c.args.self.now.resolution in let is = c.from-side.ensures ∙ c.side.ensures.value in omega arith

pub nonzero_rem-result : goal.nonzero_rem-result
nonzero_rem-result c = let some = some_side c.args.self.now.resolution in let is = c.from-side.ensures ∙ c.side.ensures.value in omega arith

pub returns-then-index-eq0 : goal.returns-then-index-eq0
returns-then-index-eq0 c =
    let is : c.from-side.result ≡ side_of c.args.self.now.resolution = c.from-side.ensures ∙ c.side.ensures.value in
    subst (λ (s : ℕ). (c.args.index / 512 / s % s == 0) ≡ ((voxel_in c.args.self.now c.args.index).y == 0)) (sym is) (floor_there (side_of c.args.self.now.resolution) c.args.index c.if-index-eq0.true)

pub returns-else-index-eq0 : goal.returns-else-index-eq0
returns-else-index-eq0 c = raised_there (side_of c.args.self.now.resolution) c.args.index c.if-index-eq0.false
