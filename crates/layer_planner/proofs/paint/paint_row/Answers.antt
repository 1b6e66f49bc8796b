use Rattle.std.proofs.Common.{◌≡◌, ◌+◌, ◌*◌, refl, subst, arith}
use Rattle.vox_geom.specs.Point.{coord}
use Rattle.plan_tape.specs.Parts.{in_row, is_in_line, voxel}
use Rattle.plan_tape.proofs.Parts.{above_row, in_row-more, none_in_row}
use Rattle.layer_planner.specs.Painting.{Paints}
use Rattle.layer_planner.proofs.Gaps.{next_voxel}
use Rattle.layer_planner.proofs.Paints.{paints_as, paints_more, paints_none, paints_on, paints_to, whole_row}
use Rattle.layer_planner.proofs.paint.paint_row.Goals as goal

pub loop-z-init : goal.loop-z-init
loop-z-init c = record { paints = paints_none c.args.tape.now c.args.goal.now (in_row c.args.x c.args.y 0) (coord c.args.x (c.args.y + 1) 0) c.requires.ready.sweep (λ d. none_in_row c.args.x c.args.y d) }

pub paint_voxel-requires-clause-ready : goal.paint_voxel-requires-clause-ready
paint_voxel-requires-clause-ready c =
    paints_on c.args.tape.now c.loop-z.tape c.args.goal.now c.args.y (in_row c.args.x c.args.y c.loop-z.z) (coord c.args.x (c.args.y + 1) 0) (coord c.args.x (c.args.y + 1) c.loop-z.z) (3 * c.loop-z.z) c.requires.ready c.loop-z.invariant.paints
    (λ d l. above_row c.args.x c.args.y c.loop-z.z d l)

pub loop-z-preserved : goal.loop-z-preserved
loop-z-preserved c =
    let tape = c.args.tape.now in
    let tape_so_far = c.loop-z.tape in
    let x = c.args.x in
    let y = c.args.y in
    let z = c.loop-z.z in
    record {
      paints = paints_to tape c.paint_voxel.new.tape c.args.goal.now (in_row x y (z + 1)) (coord x (y + 1) 0) (coord x (y + 1) z) (coord x (y + 1) (z + 1)) (3 * z + 1) 2 (3 * (z + 1))
          (paints_more tape tape_so_far c.paint_voxel.new.tape c.args.goal.now (in_row x y z) (voxel x y z) (in_row x y (z + 1)) (coord x (y + 1) 0) (coord x (y + 1) z) (coord x (y + 1) z) (3 * z) 1 (3 * z + 1) c.loop-z.invariant.paints c.in_ok-paint_voxel.ensures (λ d. in_row-more x y z d) (omega arith))
          (next_voxel x (y + 1) z) (omega arith);
    }

pub returns : goal.returns
returns c =
    let tape = c.args.tape.now in
    let tape_so_far = c.loop-z.tape in
    let x = c.args.x in
    let y = c.args.y in
    let resolution = tape.matrix.resolution in
    let same = c.requires.ready.sweep.same in
    let last : c.loop-z.z ≡ resolution = omega arith in
    let painted : Paints tape tape_so_far c.args.goal.now (in_row x y resolution) (coord x (y + 1) 0) (coord x (y + 1) resolution) (3 * resolution) = subst (λ n. Paints tape tape_so_far c.args.goal.now (in_row x y n) (coord x (y + 1) 0) (coord x (y + 1) n) (3 * n)) last c.loop-z.invariant.paints in
    paints_as tape tape_so_far c.args.goal.now (in_row x y resolution) (is_in_line x y) (coord x (y + 1) 0) (coord x (y + 1) resolution) (3 * resolution) painted
    (whole_row tape_so_far.matrix tape.matrix c.args.goal.now resolution painted.resolution refl same x y painted.painted)
