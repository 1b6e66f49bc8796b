use Rattle.std.proofs.Common.{◌≡◌, ℕ, ◌+◌, ◌-◌, ◌*◌, ◌≤◌, arith, get_or, subst, sym}
use Rattle.vox_geom.specs.declared.coordinate.Coord.{Coord}
use Rattle.support_forest.specs.Segments.{AreCleared, LieInRow, VoidsMore}
use Rattle.support_forest.specs.VoidingOne.{HaveVoidedOne}
use Rattle.support_forest.proofs.Clearing.{one_listed, one_voided, row_cleared, row_listed}
use Rattle.support_forest.proofs.FillingOne.{unless, when}
use Rattle.support_forest.proofs.Segments.{first_of, segment_in_row}
use Rattle.support_forest.proofs.segment.void_segment.Goals as goal

abbrev origin : Coord
origin = record { x = 0; y = 0; z = 0 }

pub returns-in_ok-push-clause-taken : goal.returns-in_ok-push-clause-taken
returns-in_ok-push-clause-taken g c =
    let count = c.segment_before-count.result in
    let count_ensured = c.segment_before-count.ensures in
    let element = get_or c.args.gone.now (c.args.end - c.from.result) origin in
    let stays = unless c.try_void.result (HaveVoidedOne c.args.cells.now c.try_void.new.cells element c.args.steps.now c.try_void.new.steps) ((c.try_void.new.cells ≡ c.args.cells.now) × (c.try_void.new.steps ≤ c.args.steps.now + 6)) c.if-not-try_void.true c.try_void.ensures in
    subst (λ (k : ℕ). VoidsMore c.args.cells.now c.try_void.new.cells c.args.gone.now c.args.end (c.args.end - k) c.args.rest.now.items c.push.new.self.items c.args.steps.now c.try_void.new.steps) (sym c.from.ensures)
    (one_listed c.args.cells.now c.try_void.new.cells c.args.gone.now c.args.end count c.args.rest.now.items c.push.new.self.items c.args.steps.now c.try_void.new.steps element c.if-count-eq1.true count_ensured.below
    (first_of c.args.gone.now c.args.end c.from.result count origin count_ensured.some count_ensured.below c.requires.within c.from.ensures) stays.0 stays.1 c.in_ok-push.ensures.items)

pub returns-else-not-try_void-clause-taken : goal.returns-else-not-try_void-clause-taken
returns-else-not-try_void-clause-taken g c =
    let count = c.segment_before-count.result in
    let count_ensured = c.segment_before-count.ensures in
    let element = get_or c.args.gone.now (c.args.end - c.from.result) origin in
    subst (λ (k : ℕ). VoidsMore c.args.cells.now c.try_void.new.cells c.args.gone.now c.args.end (c.args.end - k) c.args.rest.now.items c.args.rest.now.items c.args.steps.now c.try_void.new.steps) (sym c.from.ensures)
    (one_voided c.args.cells.now c.try_void.new.cells c.args.gone.now c.args.end count c.args.rest.now.items c.args.steps.now c.try_void.new.steps element c.if-count-eq1.true count_ensured.below
    (first_of c.args.gone.now c.args.end c.from.result count origin count_ensured.some count_ensured.below c.requires.within c.from.ensures)
    (when c.try_void.result (HaveVoidedOne c.args.cells.now c.try_void.new.cells element c.args.steps.now c.try_void.new.steps) ((c.try_void.new.cells ≡ c.args.cells.now) × (c.try_void.new.steps ≤ c.args.steps.now + 6)) c.if-not-try_void.false c.try_void.ensures))

pub free_slot-requires-clause-row : goal.free_slot-requires-clause-row
free_slot-requires-clause-row g c =
    let count = c.segment_before-count.result in
    let count_ensured = c.segment_before-count.ensures in
    let element = get_or c.args.gone.now (c.args.end - c.from.result) origin in
    subst (λ (p : Coord). LieInRow c.args.cells.now p count) (sym c.index_of-index.ensures.voxel)
    (segment_in_row c.args.cells.now c.args.gone.now c.args.end count element c.requires.exact
    (count_ensured.segment element (first_of c.args.gone.now c.args.end c.from.result count origin count_ensured.some count_ensured.below c.requires.within c.from.ensures)) count_ensured.below c.requires.full)

pub returns-in-Some-clause-taken : goal.returns-in-Some-clause-taken
returns-in-Some-clause-taken g c =
    let count = c.segment_before-count.result in
    let count_ensured = c.segment_before-count.ensures in
    let element = get_or c.args.gone.now (c.args.end - c.from.result) origin in
    let some = count_ensured.some in
    let more = c.if-count-eq1.false in
    let n_large : 2 ≤ count = grind arith in
    subst (λ (k : ℕ). VoidsMore c.args.cells.now c.clear_row.new.cells c.args.gone.now c.args.end (c.args.end - k) c.args.rest.now.items c.args.rest.now.items c.args.steps.now c.clear_row.new.steps) (sym c.from.ensures)
    (row_cleared c.args.cells.now c.clear_row.new.cells c.args.gone.now c.args.end count c.args.rest.now.items c.args.steps.now c.free_slot.new.steps c.clear_row.new.steps element n_large count_ensured.below
    (count_ensured.segment element (first_of c.args.gone.now c.args.end c.from.result count origin count_ensured.some count_ensured.below c.requires.within c.from.ensures)) c.free_slot.ensures.touches
    (subst (λ (p : Coord). AreCleared c.args.cells.now c.clear_row.new.cells p 0 count c.free_slot.new.steps c.clear_row.new.steps) c.index_of-index.ensures.voxel c.clear_row.ensures))

pub returns-clause-taken : goal.returns-clause-taken
returns-clause-taken g c =
    let count = c.segment_before-count.result in
    let count_ensured = c.segment_before-count.ensures in
    let some = count_ensured.some in
    let more = c.if-count-eq1.false in
    let n_large : 2 ≤ count = grind arith in
    let list_voxels_ensured = c.in_ok-list_voxels.ensures c.args.cells.now c.args.steps.now in
    subst (λ (k : ℕ). VoidsMore c.args.cells.now c.args.cells.now c.args.gone.now c.args.end (c.args.end - k) c.args.rest.now.items c.list_voxels.new.rest.items c.args.steps.now c.free_slot.new.steps) (sym c.from.ensures)
    (row_listed c.args.cells.now c.args.gone.now c.args.end count c.args.rest.now.items c.list_voxels.new.rest.items c.args.steps.now c.free_slot.new.steps n_large count_ensured.below c.free_slot.ensures.touches
    (subst (λ (k : ℕ). VoidsMore c.args.cells.now c.args.cells.now c.args.gone.now c.args.end (c.args.end - k) c.args.rest.now.items c.list_voxels.new.rest.items c.args.steps.now (c.args.steps.now + 6 * (c.args.end - (c.args.end - k)))) c.from.ensures list_voxels_ensured))
