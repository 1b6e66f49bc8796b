use Rattle.std.proofs.Common.{ℕ, ◌⊎◌, ◌+◌, ◌-◌, ◌<◌, ◌/◌, arith, refl, sym, subst, inr}
use Rattle.vox_geom.specs.Space.{IsInSpace}
use Rattle.vox_geom.proofs.Sums.{most_cube}
use Rattle.support_forest.specs.Grid.{word_at}
use Rattle.support_forest.specs.Indices.{voxel_of}
use Rattle.support_forest.proofs.Nearby.{stay_after}
use Rattle.support_forest.proofs.Offered.{lies_in_hand, next_inside, next_toward, next_word, no_higher}
use Rattle.support_forest.proofs.Orphans.{few_sides, neighbour, index_below}
use Rattle.support_forest.proofs.SettlingSteps.{direction_idle, direction_offered}
use Rattle.support_forest.proofs.settle.spread_toward.Goals as goal

pub index_toward-next-requires-clause-few : goal.index_toward-next-requires-clause-few
index_toward-next-requires-clause-few g c = few_sides c.args.cells.now.resolution c.args.side c.requires.side c.recall.ensures.few

pub index_toward-next-requires-clause-within : goal.index_toward-next-requires-clause-within
index_toward-next-requires-clause-within g c = index_below c.args.cells.now.resolution c.args.side c.args.offer.index c.requires.side (lies_in_hand _ _ _ _ _ c.requires.can).within

pub index_toward-next-requires-clause-some : goal.index_toward-next-requires-clause-some
index_toward-next-requires-clause-some g c = neighbour c.args.cells.now c.args.side c.args.offer.index g.row.D c.args.word c.requires.side (lies_in_hand _ _ _ _ _ c.requires.can) c.requires.word c.if-not-improves_next.ensures.0

pub overflow_add-beyond : goal.overflow_add-beyond
overflow_add-beyond g c =
    let high = c.requires.can.is.here.0 in
    let same = c.requires.can.is.same.resolution in
    let cube = most_cube c.requires.can.old.resolution (omega (arith, c.recall.ensures.few)) in
    omega arith

pub slot_toward-slot-requires-clause-some : goal.slot_toward-slot-requires-clause-some
slot_toward-slot-requires-clause-some g c = neighbour c.args.cells.now c.args.side c.args.offer.index g.row.D c.args.word c.requires.side (lies_in_hand _ _ _ _ _ c.requires.can) c.requires.word c.if-not-improves_next.ensures.0

pub slot_toward-slot-requires-clause-within : goal.slot_toward-slot-requires-clause-within
slot_toward-slot-requires-clause-within g c =
    let inside = lies_in_hand _ _ _ _ _ c.requires.can in
    next_inside c.args.cells.now c.args.side c.args.offer.index g.row.D c.args.word c.index_toward-next.result inside c.requires.word (neighbour c.args.cells.now c.args.side c.args.offer.index g.row.D c.args.word c.requires.side inside c.requires.word c.if-not-improves_next.ensures.0) c.index_toward-next.ensures c.if-not-improves_next.ensures.0

pub accept-requires-clause-within : goal.accept-requires-clause-within
accept-requires-clause-within g c =
    let inside = lies_in_hand _ _ _ _ _ c.requires.can in
    next_inside c.args.cells.now c.args.side c.args.offer.index g.row.D c.args.word c.index_toward-next.result inside c.requires.word (neighbour c.args.cells.now c.args.side c.args.offer.index g.row.D c.args.word c.requires.side inside c.requires.word c.if-not-improves_next.ensures.0) c.index_toward-next.ensures c.if-not-improves_next.ensures.0

pub accept-requires-clause-stands : goal.accept-requires-clause-stands
accept-requires-clause-stands g c =
    let beside = neighbour c.args.cells.now c.args.side c.args.offer.index g.row.D c.args.word c.requires.side (lies_in_hand _ _ _ _ _ c.requires.can) c.requires.word c.if-not-improves_next.ensures.0 in
    sym (next_word (word_at c.args.cells.now) c.args.side c.args.offer.index g.row.D c.args.word c.index_toward-next.result c.requires.word beside c.index_toward-next.ensures)

pub accept-requires-clause-improves : goal.accept-requires-clause-improves
accept-requires-clause-improves g c =
    let beside = neighbour c.args.cells.now c.args.side c.args.offer.index g.row.D c.args.word c.requires.side (lies_in_hand _ _ _ _ _ c.requires.can) c.requires.word c.if-not-improves_next.ensures.0 in
    subst (λ (m : ℕ). (0 < m) × ((m < 8) ⊎ (c.args.offer.height + 1 < m / 8)))
    (sym (next_word (word_at c.args.cells.now) c.args.side c.args.offer.index g.row.D c.args.word c.index_toward-next.result c.requires.word beside c.index_toward-next.ensures)) c.if-not-improves_next.ensures

pub accept-requires-clause-small : goal.accept-requires-clause-small
accept-requires-clause-small g c =
    let high = c.requires.can.is.here.0 in
    let same = c.requires.can.is.same.resolution in
    let cube = most_cube c.requires.can.old.resolution (omega (arith, c.recall.ensures.few)) in
    omega arith

pub accept-requires-clause-rising : goal.accept-requires-clause-rising
accept-requires-clause-rising g c = no_higher c.args.side (c.args.offer.height + 1) c.args.pending.now.found c.requires.can.is.high

pub returns-clause-further : goal.returns-clause-further
returns-clause-further g c =
    let beside = neighbour c.args.cells.now c.args.side c.args.offer.index g.row.D c.args.word c.requires.side (lies_in_hand _ _ _ _ _ c.requires.can) c.requires.word c.if-not-improves_next.ensures.0 in
    let accepted = c.in_ok-accept.ensures.accepted 0 0 (omega arith) in
    stay_after (word_at c.args.cells.now) (word_at c.accept.new.cells) (voxel_of c.args.side c.args.offer.index) (voxel_of c.args.side c.index_toward-next.result) g.row.D _
    (next_toward c.args.side c.args.offer.index g.row.D c.index_toward-next.result beside c.index_toward-next.ensures) accepted.written

pub returns-clause-spreads : goal.returns-clause-spreads
returns-clause-spreads g c = λ old start before limit s.
    let inside = lies_in_hand _ _ _ _ _ c.requires.can in
    let beside = neighbour c.args.cells.now c.args.side c.args.offer.index g.row.D c.args.word c.requires.side inside c.requires.word c.if-not-improves_next.ensures.0 in
    let toward = next_toward c.args.side c.args.offer.index g.row.D c.index_toward-next.result beside c.index_toward-next.ensures in
    let here = next_inside c.args.cells.now c.args.side c.args.offer.index g.row.D c.args.word c.index_toward-next.result inside c.requires.word beside c.index_toward-next.ensures c.if-not-improves_next.ensures.0 in
    let within : IsInSpace old.resolution (voxel_of c.args.side c.index_toward-next.result) = subst (λ (r : ℕ). IsInSpace r (voxel_of c.args.side c.index_toward-next.result)) s.same.resolution here in
    let accept_touch = c.in_ok-accept.ensures.touch in
    direction_offered _ _ _ _ _ _ _ _ _ _ _ _ _ s toward (record { toward = c.opposite.ensures _ _ toward; height = refl; within = within }) (inr (c.in_ok-accept.ensures.accepted (c.args.steps.now + g.row.D - 7) (c.accept.new.steps + (g.row.D + 1) - 7) (omega arith)))

pub returns-then-not-improves_next-clause-spreads : goal.returns-then-not-improves_next-clause-spreads
returns-then-not-improves_next-clause-spreads g c = λ old start before limit s.
    direction_idle _ _ _ _ _ _ _ _ _ _ _ c.requires.direction s c.requires.word c.if-not-improves_next.ensures (omega arith)
