use Rattle.std.proofs.Common.{◌≡◌, ℕ, ◌+◌, ◌-◌, ◌<◌, ◌∙◌, Some, ap, arith, subst, sym}
use Rattle.vox_geom.specs.declared.coordinate.Coord.{Coord}
use Rattle.vox_geom.specs.Space.{IsInSpace}
use Rattle.support_forest.specs.Grid.{Grid, side, slot_of, word_at}
use Rattle.support_forest.specs.Indices.{voxel_in, voxel_of}
use Rattle.support_forest.specs.Segments.{AreCleared, LieInRow, further}
use Rattle.support_forest.specs.Words.{IsWritten}
use Rattle.support_forest.proofs.Clearing.{before_left, cleared_more}
use Rattle.support_forest.proofs.Nearby.{slot_stays}
use Rattle.support_forest.proofs.Segments.{row_slot, row_space}
use Rattle.support_forest.proofs.Voxels.{part_there, index_small, voxel_further}
use Rattle.support_forest.proofs.segment.clear_voxels.Goals as goal

-- the voxel at a later index of the row, in a store of the same resolution
later : (old now : Grid) (index n k behind : ℕ) → now.resolution ≡ old.resolution → LieInRow old (voxel_in old index) n
    → k < n → behind ≡ k → voxel_in now (index + behind) ≡ further (voxel_in old index) k
later old now index n k behind same row l e =
    let part = part_there (side old.resolution) index n row.row in
    ap (λ (r : ℕ). voxel_of (side r) (index + behind)) same ∙ (voxel_further (side old.resolution) index behind (omega arith) ∙ ap (further (voxel_in old index)) e)

pub overflow_add-index : goal.overflow_add-index
overflow_add-index g c =
    let within = c.loop-left.invariant.within in
    let small = index_small c.args.cells.now.resolution c.args.index c.recall.ensures.few c.requires.row.row.within in
    let part = part_there (side c.args.cells.now.resolution) c.args.index c.args.count c.requires.row.row.row in
    omega (arith, c.from.ensures)

pub clear_voxel-requires-clause-within : goal.clear_voxel-requires-clause-within
clear_voxel-requires-clause-within g c =
    let invariant = c.loop-left.invariant in
    let within = invariant.within in
    let goes_on = c.loop-left-test.true in
    let here = later c.args.cells.now c.loop-left.cells c.args.index c.args.count (c.loop-left.left - 1) c.from.result invariant.resolution c.requires.row.row (omega arith) c.from.ensures in
    subst (λ (p : Coord). IsInSpace c.loop-left.cells.resolution p) (sym here)
    (subst (λ (r : ℕ). IsInSpace r (further (voxel_in c.args.cells.now c.args.index) (c.loop-left.left - 1))) (sym invariant.resolution)
    (row_space c.args.cells.now (voxel_in c.args.cells.now c.args.index) c.args.count (c.loop-left.left - 1) c.requires.row.row (omega arith)))

pub clear_voxel-requires-clause-slot : goal.clear_voxel-requires-clause-slot
clear_voxel-requires-clause-slot g c =
    let invariant = c.loop-left.invariant in
    let within = invariant.within in
    let goes_on = c.loop-left-test.true in
    let here = later c.args.cells.now c.loop-left.cells c.args.index c.args.count (c.loop-left.left - 1) c.from.result invariant.resolution c.requires.row.row (omega arith) c.from.ensures in
    subst (λ (p : Coord). slot_of c.loop-left.cells p ≡ Some c.args.own) (sym here)
    (sym (slot_stays c.args.cells.now c.loop-left.cells (further (voxel_in c.args.cells.now c.args.index) (c.loop-left.left - 1)) (Some c.args.own) invariant.table invariant.resolution
    (row_slot c.args.cells.now (voxel_in c.args.cells.now c.args.index) c.args.count (c.loop-left.left - 1) (Some c.args.own) c.requires.row.row (omega arith) (sym c.requires.row.own))))

pub loop-left-preserved : goal.loop-left-preserved
loop-left-preserved g c =
    let invariant = c.loop-left.invariant in
    let within = invariant.within in
    let goes_on = c.loop-left-test.true in
    let touches = c.clear_voxel.ensures.touches in
    let first = voxel_in c.args.cells.now c.args.index in
    let here = later c.args.cells.now c.loop-left.cells c.args.index c.args.count (c.loop-left.left - 1) c.from.result invariant.resolution c.requires.row.row (omega arith) c.from.ensures in
    cleared_more c.args.cells.now c.loop-left.cells c.clear_voxel.new.cells first (c.loop-left.left - 1) c.args.count c.args.steps.now c.loop-left.steps c.clear_voxel.new.steps c.requires.free
    (before_left c.args.cells.now c.loop-left.cells first c.loop-left.left c.args.count c.args.steps.now c.loop-left.steps (omega arith) invariant) (omega arith)
    (subst (λ (p : Coord). IsWritten (word_at c.loop-left.cells) (word_at c.clear_voxel.new.cells) p 0) here c.clear_voxel.ensures.written) c.clear_voxel.ensures.resolution c.clear_voxel.ensures.slots (omega arith)

pub returns : goal.returns
returns g c =
    let at_end = c.loop-left-test.false in
    let left_zero : c.loop-left.left ≡ 0 = omega arith in
    subst (λ (k : ℕ). AreCleared c.args.cells.now c.loop-left.cells (voxel_in c.args.cells.now c.args.index) k c.args.count c.args.steps.now c.loop-left.steps) left_zero c.loop-left.invariant
