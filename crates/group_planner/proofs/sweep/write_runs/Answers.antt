use Rattle.std.proofs.Common.{◌+◌, ◌-◌, ◌*◌, ◌≤◌, sym, ◌∙◌, subst, arith}
use Rattle.group_planner.specs.Pair.{in_part}
use Rattle.group_planner.specs.Rows.{begins_run, one_if, runs_of_row}
use Rattle.group_planner.specs.Runs.{runs_before}
use Rattle.group_planner.specs.Stamping.{Stamps, most_work, work_to}
use Rattle.group_planner.proofs.Counts.{sum_below-rises}
use Rattle.group_planner.proofs.Found.{cut_at_start}
use Rattle.group_planner.proofs.Stamps.{stamps_line, stamps_run, stamps_start}
use Rattle.group_planner.proofs.Worked.{from_first, further, left_after, left_before}
use Rattle.group_planner.proofs.sweep.write_runs.Goals as goal

pub loop-run-init : goal.loop-run-init
loop-run-init c =
    let tape = c.args.tape.now in
    let model = c.args.model.now in
    record {
      stamps = stamps_start tape model c.args.full c.args.x c.args.y (runs_before model c.args.x c.args.y 0) c.requires.ready.pair;
      x = c.requires.x;
      y = c.requires.y;
      cut = cut_at_start model c.args.x c.args.y;
      within = omega arith;
      work = omega arith;
    }

pub write_run-requires-clause-limit : goal.write_run-requires-clause-limit
write_run-requires-clause-limit c =
    let model = c.args.model.now in
    let found = c.in-Some.ensures.found in
    let inv = c.loop-run.invariant in
    let rises = sum_below-rises (λ z. one_if (begins_run model c.args.x c.args.y z)) c.in-Some.run'.end model.resolution found.is_run.within in
    let on = further c.loop-run.tape c.loop-run.z c.in-Some.run'.first found.low in
    let left = left_before (work_to c.loop-run.tape c.loop-run.z) (work_to c.args.tape.now 0) c.loop-run.z c.in-Some.run'.first c.in-Some.run'.end (runs_before model c.args.x c.args.y c.loop-run.z) (runs_before model c.args.x c.args.y c.in-Some.run'.end) (runs_of_row model c.args.x c.args.y) model.resolution inv.work found.low found.is_run.some found.is_run.within found.one_more rises (subst (λ r. work_to c.args.tape.now 0 + 45 * runs_of_row model c.args.x c.args.y + 2 * r ≤ most_work) (sym c.requires.ready.same) c.requires.limit) in
    let ends = from_first c.loop-run.tape c.in-Some.run'.first c.in-Some.run'.end found.is_run.some in
    omega (arith, on, left, ends)

pub loop-run-preserved : goal.loop-run-preserved
loop-run-preserved c =
    let tape = c.args.tape.now in
    let tape_so_far = c.loop-run.tape in
    let tape_after_write_run = c.write_run.new.tape in
    let model = c.args.model.now in
    let run = c.in-Some.run' in
    let found = c.in-Some.ensures.found in
    let write_run_ensured = c.in_ok-write_run.ensures in
    let inv = c.loop-run.invariant in
    let on = further tape_so_far c.loop-run.z run.first found.low in
    let all = write_run_ensured.forth in
    let joined : work_to tape_after_write_run run.end ≤ (work_to tape_so_far c.loop-run.z + 2 * (run.first - c.loop-run.z)) + 45 + 2 * (run.end - run.first) = omega (arith, on, all) in
    record {
      stamps = subst (Stamps tape tape_after_write_run model c.args.full (in_part c.args.x c.args.y 0 run.end)) (sym found.one_more) (stamps_run tape tape_so_far tape_after_write_run model c.args.full c.args.x c.args.y c.loop-run.z (runs_before model c.args.x c.args.y c.loop-run.z) run inv.stamps write_run_ensured inv.x inv.y found);
      x = write_run_ensured.same_x ∙ inv.x;
      y = write_run_ensured.same_y ∙ inv.y;
      cut = found.is_run.cut;
      within = found.is_run.within;
      work = left_after (work_to tape_after_write_run run.end) (work_to tape_so_far c.loop-run.z) (work_to tape 0) c.loop-run.z run.first run.end (runs_before model c.args.x c.args.y c.loop-run.z) (runs_before model c.args.x c.args.y run.end) joined inv.work found.low found.is_run.some found.one_more;
    }

pub returns-clause-stamps : goal.returns-clause-stamps
returns-clause-stamps c =
    let inv = c.loop-run.invariant in
    let none_of_default = c.in_default.ensures.none in
    stamps_line c.args.tape.now c.loop-run.tape c.args.model.now c.args.full c.args.x c.args.y c.loop-run.z (runs_before c.args.model.now c.args.x c.args.y c.loop-run.z) (runs_of_row c.args.model.now c.args.x c.args.y) inv.stamps none_of_default (let none_more = none_of_default.none_more in omega arith)
