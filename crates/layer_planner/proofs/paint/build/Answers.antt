use Rattle.std.proofs.Common.{◌≡◌, ℕ, ◌+◌, ◌-◌, ◌*◌, ◌<◌, ◌≤◌, subst, arith}
use Rattle.plan_tape.specs.Parts.{below_layer, layer}
use Rattle.plan_tape.proofs.Parts.{below_layer-more}
use Rattle.layer_planner.specs.Painting.{Paints, layer_bytes, row_bytes}
use Rattle.layer_planner.proofs.Gaps.{next_layer}
use Rattle.layer_planner.proofs.Paints.{paints_more, paints_to, paints_yet, same_below}
use Rattle.layer_planner.proofs.paint.build.Goals as goal
use Rattle.vox_geom.specs.Point.{coord}

-- a layer more costs its rows, and the path to the next one
layer_more : (y r : ℕ) → y * layer_bytes r + r * row_bytes r + (r + 2) ≤ (y + 1) * layer_bytes r
layer_more y r = omega arith

pub loop-y-init : goal.loop-y-init
loop-y-init c = record { paints = paints_yet c.args.tape.now c.args.goal.now (below_layer c.args.low) (coord 0 (c.args.low + 1) 0) _ c.requires.ready (same_below c.args.tape.now.matrix c.args.goal.now c.args.low c.requires.below) }

pub loop-y-preserved : goal.loop-y-preserved
loop-y-preserved c =
    let tape = c.args.tape.now in
    let tape_so_far = c.loop-y.tape in
    let inv = c.loop-y.invariant in
    let resolution = tape.matrix.resolution in
    let y = c.loop-y.y in
    let from = coord 0 (c.args.low + 1) 0 in
    let size : c.args.goal.now.resolution ≡ resolution = c.requires.ready.same in
    let high : y + 1 < resolution = omega arith in
    let painted : Paints tape_so_far c.paint_layer.new.tape c.args.goal.now (layer y) (coord 0 (y + 1) 0) (coord resolution (y + 1) 0) (resolution * row_bytes resolution) =
    subst (λ n. Paints tape_so_far c.paint_layer.new.tape c.args.goal.now (layer y) (coord 0 (y + 1) 0) (coord n (y + 1) 0) (n * row_bytes n)) inv.paints.resolution c.in_ok-paint_layer.ensures in
    record {
      paints = paints_to tape c.paint_layer.new.tape c.args.goal.now (below_layer (y + 1)) from (coord resolution (y + 1) 0) (coord 0 (y + 1 + 1) 0) (y * layer_bytes resolution + resolution * row_bytes resolution) (resolution + 2) ((y + 1) * layer_bytes resolution)
          (paints_more tape tape_so_far c.paint_layer.new.tape c.args.goal.now (below_layer y) (layer y) (below_layer (y + 1)) from (coord 0 (y + 1) 0) (coord resolution (y + 1) 0) (y * layer_bytes resolution) (resolution * row_bytes resolution) (y * layer_bytes resolution + resolution * row_bytes resolution) inv.paints painted (λ d. below_layer-more y d) (omega arith))
          (next_layer resolution (y + 1) (y + 1 + 1) (omega arith) (omega arith) (omega arith)) (layer_more y resolution);
    }

pub returns : goal.returns
returns c =
    let tape = c.args.tape.now in
    let resolution = tape.matrix.resolution in
    let size : c.args.goal.now.resolution ≡ resolution = c.requires.ready.same in
    let last : c.loop-y.y + 1 ≡ resolution = omega arith in
    let one : c.loop-y.y ≡ resolution - 1 = omega arith in
    subst (λ n. Paints tape c.loop-y.tape c.args.goal.now (below_layer (resolution - 1)) (coord 0 (c.args.low + 1) 0) (coord 0 n 0) ((resolution - 1) * layer_bytes resolution)) last
    (subst (λ n. Paints tape c.loop-y.tape c.args.goal.now (below_layer n) (coord 0 (c.args.low + 1) 0) (coord 0 (c.loop-y.y + 1) 0) (n * layer_bytes resolution)) one c.loop-y.invariant.paints)
