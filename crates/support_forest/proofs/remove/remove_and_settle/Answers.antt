use Rattle.std.proofs.Common.{◌<◌, ◌≤◌, sym, ◌∙◌, ap, subst, arith, List, length}
use Rattle.vox_geom.specs.declared.coordinate.Coord.{Coord}
use Rattle.support_forest.specs.Grid.{side}
use Rattle.support_forest.specs.Offers.{orphans_at}
use Rattle.support_forest.specs.Waiting.{CanResettle, HaveRepaired}
use Rattle.support_forest.proofs.Handling.{handled_none, handled_more, orphan_inside, still_inside}
use Rattle.support_forest.proofs.Orphans.{no_voxels, orphan_below, orphan_here, orphans_length, voxels_same}
use Rattle.support_forest.proofs.Removing.{can_resettle, have_removed}
use Rattle.support_forest.proofs.remove.remove_and_settle.Goals as goal

pub loop-i-init : goal.loop-i-init
loop-i-init g c = handled_none _ _ _ _ _ _ _ c.in_ok-vanish.ensures (no_voxels c.side-side.result _ c.take_fresh-fresh.ensures)

pub handle-requires-clause-inside : goal.handle-requires-clause-inside
handle-requires-clause-inside g c =
    let below_length : c.loop-i.i < length c.loop-i.queue.items = let len_ensured = c.len.ensures in let queue_ok = c.loop-i.queue.ok in let goes_on = c.loop-i-test.true in omega arith in
    record {
      within = orphan_inside _ _ _ _ _ _ _ _ _ c.requires.exact c.loop-i.invariant (orphan_below c.side-side.result _ _ below_length) (orphan_here c.side-side.result _ _ _ below_length c.index-x.ensures);
      space = λ q f. still_inside _ _ _ _ _ _ _ _ c.requires.exact c.loop-i.invariant q f;
    }

pub handle-requires-clause-height : goal.handle-requires-clause-height
handle-requires-clause-height g c =
    let below_length : c.loop-i.i < length c.loop-i.queue.items = let len_ensured = c.len.ensures in let queue_ok = c.loop-i.queue.ok in let goes_on = c.loop-i-test.true in omega arith in
    (c.loop-i.invariant.removing.listed _ (c.loop-i.i, (orphan_below c.side-side.result _ _ below_length), sym (orphan_here c.side-side.result _ _ _ below_length c.index-x.ensures))).0

pub loop-i-smaller : goal.loop-i-smaller
loop-i-smaller g c =
    let below_length : c.loop-i.i < length c.loop-i.queue.items = let len_ensured = c.len.ensures in let queue_ok = c.loop-i.queue.ok in let goes_on = c.loop-i-test.true in omega arith in
    (handled_more _ _ _ _ _ _ _ _ _ _ _ _ _ c.requires.exact c.loop-i.invariant (orphan_below c.side-side.result _ _ below_length) (orphan_here c.side-side.result _ _ _ below_length c.index-x.ensures) c.in_ok-handle.ensures.resolution c.in_ok-handle.ensures.done c.in_ok-handle.ensures.touches).1

pub loop-i-preserved : goal.loop-i-preserved
loop-i-preserved g c =
    let below_length : c.loop-i.i < length c.loop-i.queue.items = let len_ensured = c.len.ensures in let queue_ok = c.loop-i.queue.ok in let goes_on = c.loop-i-test.true in omega arith in
    (handled_more _ _ _ _ _ _ _ _ _ _ _ _ _ c.requires.exact c.loop-i.invariant (orphan_below c.side-side.result _ _ below_length) (orphan_here c.side-side.result _ _ _ below_length c.index-x.ensures) c.in_ok-handle.ensures.resolution c.in_ok-handle.ensures.done c.in_ok-handle.ensures.touches).0

pub repair-requires-clause-can : goal.repair-requires-clause-can
repair-requires-clause-can g c =
    let side_is = c.side-side.ensures.value ∙ ap side (sym c.loop-i.invariant.removing.resolution) in
    let at_end : length (orphans_at c.side-side.result c.loop-i.queue.items) ≤ c.loop-i.i = let len_ensured = c.len.ensures in let queue_ok = c.loop-i.queue.ok in let stopped = c.loop-i-test.false in omega (arith, orphans_length c.side-side.result c.loop-i.queue.items) in
    subst (λ (l : List Coord). CanResettle c.loop-i.cells l) (voxels_same _ _ _ _ side_is c.deref.ensures.value) (can_resettle _ _ _ _ _ _ c.requires.exact c.loop-i.invariant.removing at_end)

pub returns : goal.returns
returns g c =
    let side_is = c.side-side.ensures.value ∙ ap side (sym c.loop-i.invariant.removing.resolution) in
    have_removed _ _ _ _ _ _ _ _ _ _ _ c.requires.exact c.loop-i.invariant.removing c.loop-i.invariant.below c.loop-i.invariant.cost (subst (λ (l : List Coord). HaveRepaired c.loop-i.cells c.repair.new.cells l c.loop-i.steps c.repair.new.steps) (sym (voxels_same _ _ _ _ side_is c.deref.ensures.value)) c.in_ok-repair.ensures)
