use Rattle.std.proofs.Common.{◌∙◌, arith}
use Rattle.support_forest.proofs.Searching.{IsRowStart, row_below, row_begins, row_ends, space_found, space_goes_on}
use Rattle.support_forest.proofs.floating.first_floating.Goals as goal

pub of_place-start-requires-clause-place : goal.of_place-start-requires-clause-place
of_place-start-requires-clause-place g c = row_below c.resolution-resolution.result c.from-side.result c.loop-row.row c.from-side.ensures c.loop-row-test.true

pub first_in_row-requires-clause-begins : goal.first_in_row-requires-clause-begins
first_in_row-requires-clause-begins g c =
    let started : IsRowStart c.args.cells.now c.loop-row.row c.of_place-start.result = row_begins _ _ _ _ _ c.resolution-resolution.ensures.value (c.from-side.ensures ∙ c.resolution-resolution.ensures.value) c.of_place-start.ensures.value c.of_place-start.ensures.within c.of_place-start.ensures.inverse in
    started.begins

pub returns-in-Some-clause-value : goal.returns-in-Some-clause-value
returns-in-Some-clause-value g c =
    let started : IsRowStart c.args.cells.now c.loop-row.row c.of_place-start.result = row_begins _ _ _ _ _ c.resolution-resolution.ensures.value (c.from-side.ensures ∙ c.resolution-resolution.ensures.value) c.of_place-start.ensures.value c.of_place-start.ensures.within c.of_place-start.ensures.inverse in
    space_found c.args.cells.now c.loop-row.row c.in-Some.z c.of_place-start.result started c.loop-row.invariant.0 c.in-Some.ensures.first

pub returns-in-Some-clause-touches : goal.returns-in-Some-clause-touches
returns-in-Some-clause-touches g c =
    let within = row_ends c.args.cells.now.resolution c.from-side.result c.loop-row.row (c.from-side.ensures ∙ c.resolution-resolution.ensures.value) c.loop-row-test.true in
    let touches = c.first_in_row.ensures.touches in
    let before = c.loop-row.invariant.1 in
    omega arith

pub loop-row-preserved : goal.loop-row-preserved
loop-row-preserved g c =
    let started : IsRowStart c.args.cells.now c.loop-row.row c.of_place-start.result = row_begins _ _ _ _ _ c.resolution-resolution.ensures.value (c.from-side.ensures ∙ c.resolution-resolution.ensures.value) c.of_place-start.ensures.value c.of_place-start.ensures.within c.of_place-start.ensures.inverse in
    let touches = c.first_in_row.ensures.touches in
    let before = c.loop-row.invariant.1 in
    (space_goes_on c.args.cells.now c.loop-row.row c.of_place-start.result started c.loop-row.invariant.0 c.in_default.ensures.first, omega arith)
