use Rattle.std.proofs.Common.{◌≡◌, ℕ, ◌%◌, arith, subst, sym}
use Rattle.support_forest.specs.Grid.{side, word_at}
use Rattle.support_forest.specs.Indices.{voxel_in}
use Rattle.support_forest.specs.Segments.{RowIsFree}
use Rattle.support_forest.proofs.Voxels.{part_there}
use Rattle.support_forest.proofs.segment.are_free.Goals as goal

pub returns-then-count-eq-BRICK_SIDE-clause-free : goal.returns-then-count-eq-BRICK_SIDE-clause-free
returns-then-count-eq-BRICK_SIDE-clause-free g c t =
    let count_is : c.args.count ≡ 8 = c.if-count-eq-BRICK_SIDE.true in
    let whole : c.args.index % 8 ≡ 0 = let part = part_there (side c.args.cells.now.resolution) c.args.index c.args.count c.requires.row.row in omega arith in
    subst (λ (n : ℕ). RowIsFree (word_at c.args.cells.now) (voxel_in c.args.cells.now c.args.index) n) (sym count_is)
    (subst (λ (p : ℕ). RowIsFree (word_at c.args.cells.now) (voxel_in c.args.cells.now p) 8) (c.start_of_row.ensures.same whole) (c.is_free.ensures.free t))
