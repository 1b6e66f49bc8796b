use Rattle.std.proofs.Common.{◌≡◌, ℕ, arith, subst, sym}
use Rattle.support_forest.specs.Grid.{word_at}
use Rattle.support_forest.specs.Indices.{voxel_in}
use Rattle.support_forest.specs.Segments.{AreCleared, LieInRow, RowIsFree, further}
use Rattle.support_forest.proofs.Rowwise.{row_voided}
use Rattle.support_forest.proofs.segment.clear_at_once.Goals as goal

pub write_row-requires-clause-row : goal.write_row-requires-clause-row
write_row-requires-clause-row g c =
    let row_required = c.requires.row.row in
    let count_is : c.args.count ≡ 8 = (let row = row_required.row in let not_below_brick_side = c.if-count-lt-BRICK_SIDE.false in omega arith) in
    subst (λ (k : ℕ). LieInRow c.args.cells.now (voxel_in c.args.cells.now c.args.index) k) count_is row_required

pub write_row-requires-clause-levels : goal.write_row-requires-clause-levels
write_row-requires-clause-levels g c k l = c.has_no_overhangs.ensures c.if-not-has_no_overhangs.false (further (voxel_in c.args.cells.now c.args.index) k)

pub returns-clause-cleared : goal.returns-clause-cleared
returns-clause-cleared g c t =
    let first = voxel_in c.args.cells.now c.args.index in
    let count_is : c.args.count ≡ 8 = (let row_required = c.requires.row.row.row in let not_below_brick_side = c.if-count-lt-BRICK_SIDE.false in omega arith) in
    subst (λ (k : ℕ). AreCleared c.args.cells.now c.write_row.new.self first 0 k c.args.steps.now c.write_row.new.steps) (sym count_is)
    (row_voided c.args.cells.now c.write_row.new.self first c.args.steps.now c.write_row.new.steps c.requires.exact
    (subst (λ (k : ℕ). RowIsFree (word_at c.args.cells.now) first k) count_is c.requires.free) c.write_row.ensures.written c.write_row.ensures.touches)
