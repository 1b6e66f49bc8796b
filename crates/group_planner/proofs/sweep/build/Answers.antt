use Rattle.std.proofs.Common.{◌≡◌, ℕ, ◌+◌, ◌-◌, true, refl, sym, ◌∙◌, subst, arith}
use Rattle.plan_tape.specs.Parts.{layer}
use Rattle.group_planner.specs.Rows.{runs, runs_of_layer}
use Rattle.group_planner.specs.Stamping.{Stamps, between_layers, stamping_steps}
use Rattle.group_planner.proofs.Counts.{sum_below-more, sum_below-rises}
use Rattle.group_planner.proofs.Layers.{above_between, between_layers-more, no_layers_yet}
use Rattle.group_planner.proofs.Stamps.{stamps_as, stamps_more, stamps_none, still_void}
use Rattle.group_planner.proofs.sweep.build.Goals as goal

pub loop-y-init : goal.loop-y-init
loop-y-init c = record { stamps = stamps_none c.args.tape.now c.args.target.now true (between_layers c.args.low c.args.low) _ c.requires.pair (no_layers_yet c.args.target.now c.args.low); climb = omega arith }

pub write_layer-requires-clause-ready : goal.write_layer-requires-clause-ready
write_layer-requires-clause-ready c =
    let tape = c.args.tape.now in
    let tape_so_far = c.loop-y.tape in
    let y = c.loop-y.y in
    let stamps = c.loop-y.invariant.stamps in
    let resolution = stamps.resolution in
    let same_required = c.requires.same in
    let end_value = c.resolution-y-end.ensures.value in
    let low = c.loop-y.auto.y in
    record {
      pair = stamps.pair;
      same = same_required ∙ sym resolution;
      within = omega (arith, resolution, same_required, end_value);
      above = still_void tape tape_so_far c.args.target.now true (between_layers c.args.low y) _ (y + 1) stamps (λ d l. above_between c.args.low y d (omega arith)) (λ d l. c.requires.free d (omega arith));
    }

pub write_layer-requires-clause-limit : goal.write_layer-requires-clause-limit
write_layer-requires-clause-limit c =
    let target = c.args.target.now in
    let y = c.loop-y.y in
    let resolution = c.args.tape.now.matrix.resolution in
    let more = sum_below-more (stamping_steps target) y in
    let same_required = c.requires.same in
    let end_value = c.resolution-y-end.ensures.value in
    let rises = sum_below-rises (stamping_steps target) (y + 1) resolution (omega (arith, same_required, end_value)) in
    let inv = c.loop-y.invariant.climb in
    let limit = c.requires.limit in
    omega (arith, more, rises, inv, limit, same_required, end_value)

pub loop-y-preserved : goal.loop-y-preserved
loop-y-preserved c =
    let target = c.args.target.now in
    let y = c.loop-y.y in
    let inv = c.loop-y.invariant in
    let write_layer_ensured = c.in_ok-write_layer.ensures in
    let runs_more = sum_below-more (runs_of_layer target) y in
    let steps_more = sum_below-more (stamping_steps target) y in
    let one = write_layer_ensured.climb in
    let before = inv.climb in
    record {
      stamps = stamps_more c.args.tape.now c.loop-y.tape c.write_layer.new.tape target true (between_layers c.args.low y) (layer y) (between_layers c.args.low (y + 1)) _ _ _ inv.stamps write_layer_ensured.stamps (λ d. between_layers-more c.args.low y d c.loop-y.auto.y) (omega (arith, runs_more));
      climb = omega (arith, steps_more, one, before);
    }

pub returns-clause-stamps : goal.returns-clause-stamps
returns-clause-stamps c =
    let tape = c.args.tape.now in
    let target = c.args.target.now in
    let y = c.loop-y.y in
    let low = c.requires.low in
    let same_required = c.requires.same in
    let end_value = c.resolution-y-end.ensures.value in
    let end : y ≡ tape.matrix.resolution - 1 = omega (arith, same_required, end_value, low) in
    let rises = sum_below-rises (runs_of_layer target) y target.resolution (omega (arith, same_required, end)) in
    subst (λ (n : ℕ). Stamps tape c.loop-y.tape target true (between_layers c.args.low n) (runs target)) end (stamps_as tape c.loop-y.tape target true (between_layers c.args.low y) (between_layers c.args.low y) _ (runs target) c.loop-y.invariant.stamps (λ d. refl) rises)

pub returns-clause-steps : goal.returns-clause-steps
returns-clause-steps c =
    let tape = c.args.tape.now in
    let target = c.args.target.now in
    let y = c.loop-y.y in
    let low = c.requires.low in
    let same_required = c.requires.same in
    let end_value = c.resolution-y-end.ensures.value in
    let end : y ≡ tape.matrix.resolution - 1 = omega (arith, same_required, end_value, low) in
    let rises = sum_below-rises (stamping_steps target) y tape.matrix.resolution (omega (arith, end)) in
    let inv = c.loop-y.invariant.climb in
    omega (arith, rises, inv, end)
