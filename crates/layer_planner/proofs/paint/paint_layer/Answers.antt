use Rattle.std.proofs.Common.{◌≡◌, ℕ, ◌+◌, ◌*◌, ◌<◌, ◌≤◌, refl, subst, arith}
use Rattle.vox_geom.specs.Point.{coord}
use Rattle.plan_tape.specs.Parts.{in_layer, is_in_line, layer}
use Rattle.plan_tape.proofs.Parts.{above_layers, in_layer-more, none_in_layer}
use Rattle.layer_planner.specs.Painting.{Paints, row_bytes}
use Rattle.layer_planner.proofs.Gaps.{next_row}
use Rattle.layer_planner.proofs.Paints.{paints_as, paints_few, paints_more, paints_none, paints_on, paints_to, whole_layer}
use Rattle.layer_planner.proofs.paint.paint_layer.Goals as goal

-- a row more costs its voxels, and the path to the next one
row_more : (x r : ℕ) → x * row_bytes r + 3 * r + (r + 2) ≤ (x + 1) * row_bytes r
row_more x r = omega arith

pub loop-x-init : goal.loop-x-init
loop-x-init c =
    let from = coord 0 (c.args.y + 1) 0 in
    let few : 0 ≤ 0 * row_bytes c.args.tape.now.matrix.resolution = omega arith in
    record {
      paints = paints_few c.args.tape.now c.args.tape.now c.args.goal.now (in_layer 0 c.args.y) from from 0 (0 * row_bytes c.args.tape.now.matrix.resolution)
          (paints_none c.args.tape.now c.args.goal.now (in_layer 0 c.args.y) from c.requires.ready.sweep (λ d. none_in_layer c.args.y d)) few;
    }

pub paint_row-requires-clause-ready : goal.paint_row-requires-clause-ready
paint_row-requires-clause-ready c =
    paints_on c.args.tape.now c.loop-x.tape c.args.goal.now c.args.y (in_layer c.loop-x.x c.args.y) (coord 0 (c.args.y + 1) 0) (coord c.loop-x.x (c.args.y + 1) 0) (c.loop-x.x * row_bytes c.args.tape.now.matrix.resolution) c.requires.ready c.loop-x.invariant.paints
    (λ d l. above_layers c.loop-x.x c.args.y d l)

pub loop-x-preserved : goal.loop-x-preserved
loop-x-preserved c =
    let tape = c.args.tape.now in
    let tape_so_far = c.loop-x.tape in
    let x = c.loop-x.x in
    let y = c.args.y in
    let resolution = tape.matrix.resolution in
    let inv = c.loop-x.invariant.paints in
    let high : y + 1 < resolution = c.requires.ready.within in
    let painted : Paints tape_so_far c.paint_row.new.tape c.args.goal.now (is_in_line x y) (coord x (y + 1) 0) (coord x (y + 1) resolution) (3 * resolution) =
    subst (λ n. Paints tape_so_far c.paint_row.new.tape c.args.goal.now (is_in_line x y) (coord x (y + 1) 0) (coord x (y + 1) n) (3 * n)) inv.resolution c.in_ok-paint_row.ensures in
    record {
      paints = paints_to tape c.paint_row.new.tape c.args.goal.now (in_layer (x + 1) y) (coord 0 (y + 1) 0) (coord x (y + 1) resolution) (coord (x + 1) (y + 1) 0) (x * row_bytes resolution + 3 * resolution) (resolution + 2) ((x + 1) * row_bytes resolution)
          (paints_more tape tape_so_far c.paint_row.new.tape c.args.goal.now (in_layer x y) (is_in_line x y) (in_layer (x + 1) y) (coord 0 (y + 1) 0) (coord x (y + 1) 0) (coord x (y + 1) resolution) (x * row_bytes resolution) (3 * resolution) (x * row_bytes resolution + 3 * resolution) inv painted (λ d. in_layer-more x y d) (omega arith))
          (next_row x (y + 1) resolution (omega arith)) (row_more x resolution);
    }

pub returns : goal.returns
returns c =
    let tape = c.args.tape.now in
    let tape_so_far = c.loop-x.tape in
    let y = c.args.y in
    let resolution = tape.matrix.resolution in
    let same = c.requires.ready.sweep.same in
    let last : c.loop-x.x ≡ resolution = omega arith in
    let painted : Paints tape tape_so_far c.args.goal.now (in_layer resolution y) (coord 0 (y + 1) 0) (coord resolution (y + 1) 0) (resolution * row_bytes resolution) = subst (λ n. Paints tape tape_so_far c.args.goal.now (in_layer n y) (coord 0 (y + 1) 0) (coord n (y + 1) 0) (n * row_bytes resolution)) last c.loop-x.invariant.paints in
    paints_as tape tape_so_far c.args.goal.now (in_layer resolution y) (layer y) (coord 0 (y + 1) 0) (coord resolution (y + 1) 0) (resolution * row_bytes resolution) painted
    (whole_layer tape_so_far.matrix tape.matrix c.args.goal.now resolution painted.resolution refl same y painted.painted)
