use Rattle.std.proofs.Common.{◌<◌, sym, ◌∙◌, ap, arith}
use Rattle.plan_tape.specs.Leg.{gap}
use Rattle.swarm_planner.specs.Crew.{places}
use Rattle.swarm_planner.specs.Lineup.{free_column, last_column}
use Rattle.swarm_planner.proofs.Lines.{free-sent, last-sent, last_free, last_within}
use Rattle.swarm_planner.proofs.Rows.{length-places}
use Rattle.swarm_planner.proofs.Sending.{below_both, between_free, goes_more, goes_nowhere, line_on, longer, onward_differs, places_on}
use Rattle.swarm_planner.proofs.crew.send_last.Goals as goal

pub loop-at-init : goal.loop-at-init
loop-at-init c =
    let tape = c.args.tape.now in
    let line_required = c.requires.line in
    let at_value = c.last_column-at.ensures.value in
    let goes_nowhere_here = goes_nowhere tape c.last_column-at.result line_required at_value in
    let some = line_required.some in
    let as_many_places = length-places tape.bots in
    let free_below_last = last_free tape.matrix.resolution _ _ 1 (places tape.bots) line_required.lined (omega arith) in
    record {
      goes = goes_nowhere_here.0;
      line = line_required;
      there = goes_nowhere_here.1;
      free = omega arith;
      onward = omega arith;
    }

pub move_last-requires-clause-free : goal.move_last-requires-clause-free
move_last-requires-clause-free c =
    let tape = c.args.tape.now in
    let invariant = c.loop-at.invariant in
    let free_column_is = ap (free_column 1) invariant.there ∙ free-sent 1 c.loop-at.at (places tape.bots) in
    let free_bound = between_free (free_column 1 (places tape.bots)) c.loop-at.at c.next_stop-at.result c.args.to invariant.free c.requires.free c.next_stop-at.ensures.onward in
    omega (arith, free_column_is, free_bound)

pub move_last-requires-clause-differ : goal.move_last-requires-clause-differ
move_last-requires-clause-differ c = λ d.
    let tape = c.args.tape.now in
    let invariant = c.loop-at.invariant in
    let some = c.requires.line.some in
    let as_many_places = length-places tape.bots in
    let last_column_is = ap last_column invariant.there ∙ last-sent c.loop-at.at (places tape.bots) (omega arith) in
    onward_differs c.loop-at.at c.next_stop-at.result c.args.to c.next_stop-at.ensures.onward (sym last_column_is ∙ d)

pub move_last-requires-clause-near : goal.move_last-requires-clause-near
move_last-requires-clause-near c =
    let tape = c.args.tape.now in
    let invariant = c.loop-at.invariant in
    let some = c.requires.line.some in
    let as_many_places = length-places tape.bots in
    let last_column_is = ap last_column invariant.there ∙ last-sent c.loop-at.at (places tape.bots) (omega arith) in
    let near = c.next_stop-at.ensures.near.0 in
    let near_of_at = c.next_stop-at.ensures.near.1 in
    omega (arith, last_column_is, near, near_of_at)

pub loop-at-preserved : goal.loop-at-preserved
loop-at-preserved c =
    let tape = c.args.tape.now in
    let tape_so_far = c.loop-at.tape in
    let invariant = c.loop-at.invariant in
    let onward_of_at = c.next_stop-at.ensures.onward in
    let longer_here = longer (last_column (places tape.bots)) c.loop-at.at c.next_stop-at.result c.args.to invariant.onward onward_of_at in
    let free_bound = between_free (free_column 1 (places tape.bots)) c.loop-at.at c.next_stop-at.result c.args.to invariant.free c.requires.free onward_of_at in
    let goes_more_here = goes_more tape tape_so_far c.move_last.new.tape c.loop-at.at c.next_stop-at.result (gap (last_column (places tape.bots)) c.loop-at.at) 1 (gap (last_column (places tape.bots)) c.next_stop-at.result) invariant.goes invariant.there c.in_ok-move_last.ensures longer_here.1 in
    let some = c.requires.line.some in
    let as_many_places = length-places tape.bots in
    let places_count = length-places tape_so_far.bots in
    let some_left = invariant.line.some in
    let last_column_is = ap last_column invariant.there ∙ last-sent c.loop-at.at (places tape.bots) (omega arith) in
    let size = ap (λ k. k.resolution) invariant.goes.matrix in
    let last = last_within tape_so_far.matrix.resolution _ _ 1 (places tape_so_far.bots) invariant.line.lined (omega arith) in
    let at : c.loop-at.at < tape.matrix.resolution = omega (arith, last_column_is, size, last) in
    let within = below_both c.loop-at.at c.next_stop-at.result c.args.to tape.matrix.resolution at c.requires.within onward_of_at in
    record {
      goes = goes_more_here;
      line = line_on tape c.move_last.new.tape c.requires.line c.next_stop-at.result (gap (last_column (places tape.bots)) c.next_stop-at.result) goes_more_here free_bound within;
      there = places_on tape c.move_last.new.tape c.requires.line c.next_stop-at.result (gap (last_column (places tape.bots)) c.next_stop-at.result) goes_more_here;
      free = free_bound;
      onward = longer_here.0;
    }
