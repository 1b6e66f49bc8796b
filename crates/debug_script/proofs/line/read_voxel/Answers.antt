use Rattle.std.proofs.Common.{arith}
use Rattle.debug_script.specs.Script.{line_parts}
use Rattle.debug_script.proofs.Forms.{voxel_in_range, x_too_high, y_too_high, z_too_high}
use Rattle.debug_script.proofs.line.read_voxel.Goals as goal

pub returns-then-x-most : goal.returns-then-x-most
returns-then-x-most c =
    let some_ensured = c.in-Some.ensures {u = tt} in
    let most = c.from-most.ensures in
    let x_is_most = c.if-x-most.true in
    x_too_high c.args.resolution c.args.number (line_parts c.args.rest.now) c.in-Some.x c.in-Some.y c.in-Some.z some_ensured.0 some_ensured.1 some_ensured.2 some_ensured.3 (omega (arith, most, x_is_most))

pub returns-then-y-most : goal.returns-then-y-most
returns-then-y-most c =
    let some_ensured = c.in-Some.ensures {u = tt} in
    let most = c.from-most.ensures in
    let x_is_not_most = c.if-x-most.false in
    let y_is_most = c.if-y-most.true in
    y_too_high c.args.resolution c.args.number (line_parts c.args.rest.now) c.in-Some.x c.in-Some.y c.in-Some.z some_ensured.0 some_ensured.1 some_ensured.2 some_ensured.3 (omega (arith, most, x_is_not_most)) (omega (arith, most, y_is_most))

pub returns-then-z-most : goal.returns-then-z-most
returns-then-z-most c =
    let some_ensured = c.in-Some.ensures {u = tt} in
    let most = c.from-most.ensures in
    let x_is_not_most = c.if-x-most.false in
    let y_is_not_most = c.if-y-most.false in
    let z_is_most = c.if-z-most.true in
    z_too_high c.args.resolution c.args.number (line_parts c.args.rest.now) c.in-Some.x c.in-Some.y c.in-Some.z some_ensured.0 some_ensured.1 some_ensured.2 some_ensured.3 (omega (arith, most, x_is_not_most)) (omega (arith, most, y_is_not_most)) (omega (arith, most, z_is_most))

pub returns : goal.returns
returns c =
    let some_ensured = c.in-Some.ensures {u = tt} in
    let most = c.from-most.ensures in
    let x_is_not_most = c.if-x-most.false in
    let y_is_not_most = c.if-y-most.false in
    let z_is_not_most = c.if-z-most.false in
    voxel_in_range c.args.resolution c.args.number (line_parts c.args.rest.now) c.in-Some.x c.in-Some.y c.in-Some.z some_ensured.0 some_ensured.1 some_ensured.2 some_ensured.3 (omega (arith, most, x_is_not_most)) (omega (arith, most, y_is_not_most)) (omega (arith, most, z_is_not_most))
