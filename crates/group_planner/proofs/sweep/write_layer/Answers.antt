use Rattle.std.proofs.Common.{◌≡◌, ℕ, ◌+◌, ap, arith}
use Rattle.plan_tape.specs.Parts.{in_layer, is_in_line}
use Rattle.plan_tape.proofs.Parts.{above_layers, in_layer-more}
use Rattle.group_planner.specs.Rows.{runs_of_row, sum_below}
use Rattle.group_planner.specs.Stamping.{row_steps}
use Rattle.group_planner.proofs.Counts.{sum_below-more, sum_below-rises}
use Rattle.group_planner.proofs.Layers.{layer_sum, no_lines, stamps_layer}
use Rattle.group_planner.proofs.Stamps.{stamp_on, stamps_more, stamps_none}
use Rattle.group_planner.proofs.sweep.write_layer.Goals as goal

pub loop-x-init : goal.loop-x-init
loop-x-init c = record { stamps = stamps_none c.args.tape.now c.args.model.now c.args.full (in_layer 0 c.args.y) _ c.requires.ready.pair (no_lines c.args.model.now c.args.y); climb = omega arith }

pub write_row-requires-clause-ready : goal.write_row-requires-clause-ready
write_row-requires-clause-ready c = stamp_on c.args.tape.now c.loop-x.tape c.args.model.now c.args.full (in_layer c.loop-x.x c.args.y) _ c.args.y c.requires.ready c.loop-x.invariant.stamps (above_layers c.loop-x.x c.args.y)

pub write_row-requires-clause-limit : goal.write_row-requires-clause-limit
write_row-requires-clause-limit c =
    let model = c.args.model.now in
    let row_steps_here : ℕ → ℕ = λ x. row_steps model x c.args.y in
    let more = sum_below-more row_steps_here c.loop-x.x in
    let rises = sum_below-rises row_steps_here (c.loop-x.x + 1) model.resolution (omega arith) in
    let all = layer_sum model c.args.y in
    let inv = c.loop-x.invariant.climb in
    let limit = c.requires.limit in
    omega (arith, more, rises, all, inv, limit)

pub loop-x-preserved : goal.loop-x-preserved
loop-x-preserved c =
    let model = c.args.model.now in
    let inv = c.loop-x.invariant in
    let write_row_ensured = c.in_ok-write_row.ensures in
    let runs = sum_below-more (λ x. runs_of_row model x c.args.y) c.loop-x.x in
    let steps = sum_below-more (λ x. row_steps model x c.args.y) c.loop-x.x in
    let one = write_row_ensured.climb in
    let before = inv.climb in
    record {
      stamps = stamps_more c.args.tape.now c.loop-x.tape c.write_row.new.tape model c.args.full (in_layer c.loop-x.x c.args.y) (is_in_line c.loop-x.x c.args.y) (in_layer (c.loop-x.x + 1) c.args.y) _ _ _ inv.stamps write_row_ensured.stamps (in_layer-more c.loop-x.x c.args.y) (omega (arith, runs));
      climb = omega (arith, steps, one, before);
    }

pub returns-clause-stamps : goal.returns-clause-stamps
returns-clause-stamps c = stamps_layer c.args.tape.now c.loop-x.tape c.args.model.now c.args.full c.loop-x.x c.args.y (omega arith) c.loop-x.invariant.stamps (let same_x : c.loop-x.x ≡ c.args.model.now.resolution = omega arith in ap (sum_below (λ x. runs_of_row c.args.model.now x c.args.y)) same_x)

pub returns-clause-climb : goal.returns-clause-climb
returns-clause-climb c =
    let model = c.args.model.now in
    let row_steps_here : ℕ → ℕ = λ x. row_steps model x c.args.y in
    let all = layer_sum model c.args.y in
    let rises = sum_below-rises row_steps_here c.loop-x.x model.resolution (omega arith) in
    let inv = c.loop-x.invariant.climb in
    omega (arith, all, rises, inv)
