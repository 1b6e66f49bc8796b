use Rattle.std.proofs.Common.{◌≡◌, ℕ, ◌+◌, ◌-◌, ◌≤◌, false, sym, ◌∙◌, ap, subst, arith}
use Rattle.plan_tape.specs.Parts.{from_layer, layer}
use Rattle.plan_tape.proofs.Parts.{from_layer-more}
use Rattle.group_planner.specs.Rows.{runs, runs_of_layer, sum_below}
use Rattle.group_planner.specs.Stamping.{Stamps, climb_to, stamping_steps}
use Rattle.group_planner.proofs.Counts.{one_of_sum, sum_below-more, sum_below-rises}
use Rattle.group_planner.proofs.Layers.{clear_on, no_layers}
use Rattle.group_planner.proofs.Stamps.{stamps_more, stamps_none}
use Rattle.group_planner.proofs.sweep.clear.Goals as goal

pub loop-y-init : goal.loop-y-init
loop-y-init c =
    let tape = c.args.tape.now in
    let source = c.args.source.now in
    let resolution = tape.matrix.resolution in
    let low = c.requires.low in
    let same_difference : c.resolution-y.result - 1 ≡ resolution - 1 = ap (λ n. n - 1) (c.resolution-y.ensures.value ∙ c.requires.ready.same) in
    let rises = sum_below-rises (stamping_steps source) (resolution - 1) resolution (omega arith) in
    let climb : climb_to tape (resolution - 1) + sum_below (stamping_steps source) (resolution - 1) + (resolution - 1) ≤ climb_to tape (resolution - 1) + resolution + sum_below (stamping_steps source) resolution = omega (arith, rises) in
    record {
      stamps = subst (λ (y : ℕ). Stamps tape tape source false (from_layer y) (runs source - sum_below (runs_of_layer source) y)) (sym same_difference) (stamps_none tape source false (from_layer (resolution - 1)) _ c.requires.ready.pair (λ d. no_layers tape source d c.requires.ready));
      within = omega (arith, same_difference, low);
      low = omega (arith, same_difference, low);
      climb = subst (λ (y : ℕ). climb_to tape y + sum_below (stamping_steps source) y + y ≤ climb_to tape (resolution - 1) + resolution + sum_below (stamping_steps source) resolution) (sym same_difference) climb;
    }

pub write_layer-requires-clause-ready : goal.write_layer-requires-clause-ready
write_layer-requires-clause-ready c =
    let inv = c.loop-y.invariant in
    clear_on c.args.tape.now c.loop-y.tape c.args.source.now c.loop-y.y (c.loop-y.y - 1) _ c.requires.ready inv.stamps (omega arith) inv.within

pub write_layer-requires-clause-limit : goal.write_layer-requires-clause-limit
write_layer-requires-clause-limit c =
    let source = c.args.source.now in
    let y = c.loop-y.y in
    let back : y - 1 + 1 ≡ y = omega arith in
    let here = ap (climb_to c.loop-y.tape) back in
    let one = one_of_sum (stamping_steps source) (y - 1) y (omega arith) in
    let inv = c.loop-y.invariant.climb in
    let limit = c.requires.limit in
    omega (arith, here, one, inv, limit)

pub loop-y-preserved : goal.loop-y-preserved
loop-y-preserved c =
    let tape = c.args.tape.now in
    let tape_so_far = c.loop-y.tape in
    let tape_after_write_layer = c.write_layer.new.tape in
    let source = c.args.source.now in
    let resolution = tape.matrix.resolution in
    let y = c.loop-y.y in
    let inv = c.loop-y.invariant in
    let write_layer_ensured = c.in_ok-write_layer.ensures in
    let back : y - 1 + 1 ≡ y = omega arith in
    let runs_more = sum_below-more (runs_of_layer source) (y - 1) in
    let runs_here = ap (sum_below (runs_of_layer source)) back in
    let runs_all = sum_below-rises (runs_of_layer source) y source.resolution (let inv_within = inv.within in let same_required = c.requires.ready.same in omega (arith, inv_within, same_required)) in
    let steps_more = sum_below-more (stamping_steps source) (y - 1) in
    let steps_here = ap (sum_below (stamping_steps source)) back in
    let old_here = ap (climb_to tape_so_far) back in
    let new_here = ap (climb_to tape_after_write_layer) back in
    let one = write_layer_ensured.climb in
    let before = inv.climb in
    let low = inv.low in
    record {
      stamps = stamps_more tape tape_so_far tape_after_write_layer source false (from_layer y) (layer (y - 1)) (from_layer (y - 1)) _ _ _ inv.stamps write_layer_ensured.stamps (λ e. from_layer-more y e (omega arith)) (omega (arith, runs_more, runs_here, runs_all));
      within = let inv_within = inv.within in omega arith;
      low = omega arith;
      climb = omega (arith, steps_more, steps_here, old_here, new_here, one, before);
    }
