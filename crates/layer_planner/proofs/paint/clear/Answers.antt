use Rattle.std.proofs.Common.{◌≡◌, ◌-◌, ◌+◌, ◌*◌, subst, arith}
use Rattle.layer_planner.specs.Painting.{Paints, layer_bytes, row_bytes}
use Rattle.plan_tape.specs.Parts.{from_layer, layer}
use Rattle.layer_planner.proofs.Paints.{paints_few, paints_more, paints_to}
use Rattle.plan_tape.proofs.Parts.{from_layer-more}
use Rattle.layer_planner.proofs.Sweeps.{fewer_layers}
use Rattle.layer_planner.proofs.paint.clear.Goals as goal
use Rattle.vox_geom.specs.Point.{coord}
use Rattle.vox_geom.proofs.Sums.{one_layer_less}
use Rattle.plan_tape.specs.Progress.{top}
use Rattle.layer_planner.proofs.Gaps.{next_layer}

pub loop-y-preserved : goal.loop-y-preserved
loop-y-preserved c =
    let tape = c.args.tape.now in
    let tape_so_far = c.loop-y.tape in
    let inv = c.loop-y.invariant in
    let resolution = tape.matrix.resolution in
    let y = c.loop-y.y in
    let paint_layer_ensured = c.in_ok-paint_layer.ensures in
    let same = inv.paints.resolution in
    let within = inv.within in
    let above : y - 1 + 1 ≡ y = omega arith in
    let painted : Paints tape_so_far c.paint_layer.new.tape c.args.nothing.now (layer (y - 1)) (coord 0 y 0) (coord resolution y 0) (resolution * row_bytes resolution) =
    (subst (λ n. Paints tape_so_far c.paint_layer.new.tape c.args.nothing.now (layer (y - 1)) (coord 0 n 0) (coord resolution n 0) (resolution * row_bytes resolution)) above (subst (λ n. Paints tape_so_far c.paint_layer.new.tape c.args.nothing.now (layer (y - 1)) (coord 0 (y - 1 + 1) 0) (coord n (y - 1 + 1) 0) (n * row_bytes n)) same paint_layer_ensured)) in
    record {
      paints = paints_to tape c.paint_layer.new.tape c.args.nothing.now (from_layer (y - 1)) (top tape.matrix) (coord resolution y 0) (coord 0 (y - 1) 0) ((resolution - 1 - y) * layer_bytes resolution + resolution * row_bytes resolution) (resolution + 2) ((resolution - 1 - (y - 1)) * layer_bytes resolution)
          (paints_more tape tape_so_far c.paint_layer.new.tape c.args.nothing.now (from_layer y) (layer (y - 1)) (from_layer (y - 1)) (top tape.matrix) (coord 0 y 0) (coord resolution y 0) ((resolution - 1 - y) * layer_bytes resolution) (resolution * row_bytes resolution) ((resolution - 1 - y) * layer_bytes resolution + resolution * row_bytes resolution) inv.paints painted (λ d. from_layer-more y d (omega arith)) (omega arith))
          (next_layer resolution y (y - 1) (omega arith) (omega arith) (omega arith)) (let less = one_layer_less resolution y (layer_bytes resolution) (omega arith) inv.within in omega arith);
      within = omega arith;
      low = omega arith;
    }

pub returns : goal.returns
returns c =
    let tape = c.args.tape.now in
    let y = c.loop-y.y in
    let inv = c.loop-y.invariant in
    let resolution = tape.matrix.resolution in
    let down : y ≡ c.args.low = let low = inv.low in omega arith in
    subst (λ n. Paints tape c.loop-y.tape c.args.nothing.now (from_layer n) (top tape.matrix) (coord 0 n 0) ((resolution - 1) * layer_bytes resolution)) down
    (paints_few tape c.loop-y.tape c.args.nothing.now (from_layer y) (top tape.matrix) (coord 0 y 0) _ _ inv.paints (fewer_layers resolution y (layer_bytes resolution)))
