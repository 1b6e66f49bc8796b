use Rattle.std.proofs.Common.{◌≡◌, ℕ, ◌+◌, ◌-◌, ◌≤◌, ◌∙◌, ap, arith, subst, sym}
use Rattle.vox_geom.specs.declared.coordinate.Coord.{Coord}
use Rattle.vox_geom.specs.Space.{IsInSpace}
use Rattle.support_forest.specs.Grid.{side}
use Rattle.support_forest.specs.Indices.{voxel_of}
use Rattle.support_forest.proofs.Voxels.{index_small, voxel_along}
use Rattle.support_forest.specs.Regions.{AreVoided, IsInRow}
use Rattle.support_forest.proofs.Voiding.{part_before_row, part_in_row, row_at, voided_already, whole_row_at}
use Rattle.support_forest.proofs.region.void_row.Goals as goal

pub loop-left-init : goal.loop-left-init
loop-left-init g c = (c.requires.order, (omega arith, (omega arith, voided_already c.args.cells.now _ _ c.args.rest.now.items c.requires.exact (λ d h. absurd (omega arith)))))

pub void_part-requires-clause-row : goal.void_part-requires-clause-row
void_part-requires-clause-row g c =
    let invariant = c.loop-left.invariant in
    let goes_on = c.loop-left-test.true in
    let part_ensured = c.min-part.ensures in
    let at_most_end : c.loop-left.left ≤ c.args.end = invariant.1.0 in
    let end_required = c.requires.end in
    part_in_row c.args.cells.now c.loop-left.cells c.args.first (c.loop-left.left - c.min-part.result) c.min-part.result c.args.end invariant.1.1.1.resolution c.requires.within (omega arith) c.requires.end (omega arith) (omega arith)

pub index_along-requires : goal.index_along-requires
index_along-requires g c =
    let within = c.requires.within in
    record {
      fits = index_small c.args.cells.now.resolution c.index_of-line.result c.recall.ensures.few
          (subst (λ (p : Coord). IsInSpace c.args.cells.now.resolution p) (sym c.index_of-line.ensures.voxel) (record { x = within.x; y = within.y; z = let along_z = within.z in omega arith }));
    }

pub void_part-requires-clause-index : goal.void_part-requires-clause-index
void_part-requires-clause-index g c =
    let invariant = c.loop-left.invariant in
    let goes_on = c.loop-left-test.true in
    let part_ensured = c.min-part.ensures in
    let at_most_end : c.loop-left.left ≤ c.args.end = invariant.1.0 in
    let within = c.requires.within in
    let end_required = c.requires.end in
    let z = c.loop-left.left - c.min-part.result in
    let r = c.args.cells.now.resolution in
    let at : Coord = record { x = c.args.first.x; y = c.args.first.y; z = z } in
    ap (λ (n : ℕ). voxel_of (side n) c.index_along.result) invariant.1.1.1.resolution
    ∙ (ap (voxel_of (side r)) c.index_along.ensures
    ∙ voxel_along r c.index_of-line.result at c.index_of-line.ensures.value (record { x = within.x; y = within.y; z = omega arith }))

pub loop-left-preserved : goal.loop-left-preserved
loop-left-preserved g c =
    let invariant = c.loop-left.invariant in
    let goes_on = c.loop-left-test.true in
    let part_ensured = c.min-part.ensures in
    let at_most_end : c.loop-left.left ≤ c.args.end = invariant.1.0 in
    let difference = c.loop-left.left - c.min-part.result in
    let left_is : c.loop-left.left ≡ difference + c.min-part.result = omega arith in (
      omega arith,
      (
        omega arith,
        (
          omega (arith, invariant.1.1.0, c.in_ok-void_part.ensures.touches),
          part_before_row c.args.cells.now c.loop-left.cells c.void_part.new.cells c.args.first difference c.min-part.result c.args.end c.args.rest.now.items c.loop-left.rest.items c.void_part.new.rest.items (omega arith)
              (subst (λ (k : ℕ). AreVoided c.args.cells.now c.loop-left.cells (IsInRow (row_at c.args.first k) (c.args.end - k)) (c.args.end - k) c.args.rest.now.items c.loop-left.rest.items) left_is invariant.1.1.1)
              c.in_ok-void_part.ensures.voided,
        ),
      ),
    )

pub returns-clause-voided : goal.returns-clause-voided
returns-clause-voided g c =
    let invariant = c.loop-left.invariant in
    let b = invariant.0 in
    whole_row_at c.args.cells.now c.loop-left.cells c.args.first c.loop-left.left c.args.end c.args.rest.now.items c.loop-left.rest.items (omega (arith, b, c.loop-left-test.false)) invariant.1.1.1
