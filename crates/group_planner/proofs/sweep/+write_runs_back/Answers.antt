use Rattle.std.proofs.Common.{◌+◌, ◌≡◌, subst, arith}
use Rattle.std.proofs.lemmas.Result.{on_ok_weaker}
use Rattle.group_planner.specs.Pair.{in_part}
use Rattle.group_planner.specs.Rows.{begins_run, one_if}
use Rattle.group_planner.specs.Runs.{runs_from}
use Rattle.group_planner.specs.Stamping.{Stamps, WritesRun, work_to}
use Rattle.group_planner.proofs.Counts.{sum_below-rises}
use Rattle.group_planner.proofs.Stamps.{stamps_run_back}
use Rattle.group_planner.proofs.Worked.{back_after, back_before, from_end, nearer}
use Rattle.group_planner.proofs.sweep.+write_runs_back.Goals as goal

pub write_run-requires-clause-limit : goal.write_run-requires-clause-limit
write_run-requires-clause-limit t c =
    let tape = c.args.tape.now in
    let tape_after_write_runs_back = c.write_runs_back.new.tape in
    let model = c.args.model.now in
    let x = c.args.x in
    let y = c.args.y in
    let z = c.args.z in
    let run = c.in-Some.run' in
    let found = c.in-Some.ensures.found in
    let one = found.one_more in
    let rises = sum_below-rises (λ k. one_if (begins_run model x y k)) run.end model.resolution found.is_run.within in
    let more : runs_from model x y run.end + 1 ≡ runs_from model x y z = omega (arith, one, rises) in
    let left = back_before (work_to tape_after_write_runs_back run.end) (work_to tape model.resolution) z run.first run.end (runs_from model x y run.end) (runs_from model x y z) model.resolution c.in_ok-write_runs_back-in-Some.ensures.work found.low found.is_run.some found.is_run.within (omega (arith, more)) c.requires.limit in
    omega (arith, left, from_end tape_after_write_runs_back run.first run.end found.is_run.some)

pub returns-in_ok-write_runs_back-in-Some-clause-stamps : goal.returns-in_ok-write_runs_back-in-Some-clause-stamps
returns-in_ok-write_runs_back-in-Some-clause-stamps t c =
    let tape = c.args.tape.now in
    let tape_after_write_runs_back = c.write_runs_back.new.tape in
    let tape_after_write_run = c.write_run.new.tape in
    let model = c.args.model.now in
    let x = c.args.x in
    let y = c.args.y in
    let z = c.args.z in
    let run = c.in-Some.run' in
    let found = c.in-Some.ensures.found in
    let write_runs_back_ensured = c.in_ok-write_runs_back-in-Some.ensures in
    let one = found.one_more in
    let rises = sum_below-rises (λ k. one_if (begins_run model x y k)) run.end model.resolution found.is_run.within in
    let more : runs_from model x y run.end + 1 ≡ runs_from model x y z = omega (arith, one, rises) in
    on_ok_weaker c.write_run.result
    (λ (w : WritesRun tape_after_write_runs_back tape_after_write_run run.first run.end c.args.full). subst (Stamps tape tape_after_write_run model c.args.full (in_part x y z model.resolution)) more (stamps_run_back tape tape_after_write_runs_back tape_after_write_run model c.args.full x y z (runs_from model x y run.end) run write_runs_back_ensured.stamps w write_runs_back_ensured.line write_runs_back_ensured.height found))
    c.write_run.ensures

pub returns-in_ok-write_runs_back-in-Some-clause-work : goal.returns-in_ok-write_runs_back-in-Some-clause-work
returns-in_ok-write_runs_back-in-Some-clause-work t c =
    let tape = c.args.tape.now in
    let tape_after_write_runs_back = c.write_runs_back.new.tape in
    let tape_after_write_run = c.write_run.new.tape in
    let model = c.args.model.now in
    let x = c.args.x in
    let y = c.args.y in
    let z = c.args.z in
    let run = c.in-Some.run' in
    let found = c.in-Some.ensures.found in
    let one = found.one_more in
    let rises = sum_below-rises (λ k. one_if (begins_run model x y k)) run.end model.resolution found.is_run.within in
    let more : runs_from model x y run.end + 1 ≡ runs_from model x y z = omega (arith, one, rises) in
    on_ok_weaker c.write_run.result
    (λ (w : WritesRun tape_after_write_runs_back tape_after_write_run run.first run.end c.args.full).
    let after = back_after (work_to tape_after_write_run run.first) (work_to tape_after_write_runs_back run.end) (work_to tape model.resolution) z run.first run.end (runs_from model x y run.end) model.resolution w.back c.in_ok-write_runs_back-in-Some.ensures.work found.low found.is_run.some found.is_run.within in
    omega (arith, more, after, nearer tape_after_write_run z run.first found.low))
    c.write_run.ensures
