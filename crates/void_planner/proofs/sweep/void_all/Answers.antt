use Rattle.std.proofs.Common.{◌-◌, ◌+◌, ◌*◌, ◌<◌, not, sym, subst, arith}
use Rattle.void_planner.specs.Square.{Clears, steps_to, strip_steps}
use Rattle.void_planner.specs.Tiles.{IsVoidBefore, edge}
use Rattle.void_planner.specs.Bounds.{tiles_of}
use Rattle.void_planner.proofs.Sweeps.{layers_all, layers_limit, layers_on, void_more}
use Rattle.void_planner.proofs.sweep.void_all.Goals as goal
use Rattle.vox_geom.specs.Point.{coord}

pub void_layer-requires-clause-limit : goal.void_layer-requires-clause-limit
void_layer-requires-clause-limit c =
    let tape = c.loop-y.tape in
    let inv = c.loop-y.invariant in
    subst (λ s. steps_to tape (coord (edge s c.loop-y.turn) (c.loop-y.y - 1 + 1) (edge s c.loop-y.back)) + strip_steps s * tiles_of s < 1073741824) (sym inv.clears.resolution)
    (layers_limit c.args.tape.now tape c.args.tape.now.matrix.resolution c.loop-y.y c.loop-y.turn c.loop-y.back 1073741824 c.loop-y-test.true inv.within inv.clears c.requires.limit)

pub loop-y-preserved : goal.loop-y-preserved
loop-y-preserved c =
    let tape = c.args.tape.now in
    let tape_so_far = c.loop-y.tape in
    let tape_after_void_layer = c.void_layer.new.tape in
    let inv = c.loop-y.invariant in
    let back_ensured = c.in_ok-back.ensures in
    let back = c.in_ok-back.back in
    let inv_within = inv.within in
    record {
      clears = layers_on tape tape_so_far tape_after_void_layer tape.matrix.resolution c.loop-y.y c.loop-y.turn c.loop-y.back back c.loop-y-test.true inv.within inv.clears
          (subst (λ s. Clears tape_so_far tape_after_void_layer (coord (edge s c.loop-y.turn) (c.loop-y.y - 1 + 1) (edge s c.loop-y.back)) (coord (edge s (not c.loop-y.turn)) (c.loop-y.y - 1 + 1) (edge s back)) (strip_steps s * tiles_of s)) inv.clears.resolution back_ensured.clears);
      void = void_more tape_so_far.matrix tape_after_void_layer.matrix c.loop-y.y c.loop-y-test.true back_ensured.clears.fewer inv.void (subst (λ r. IsVoidBefore tape_after_void_layer.matrix r (c.loop-y.y - 1)) (sym back_ensured.clears.resolution) back_ensured.void);
      within = omega (arith, inv_within);
    }

pub returns-clause-clears : goal.returns-clause-clears
returns-clause-clears c =
    let tape = c.args.tape.now in
    let wide = c.requires.square.wide in
    let at_end = c.loop-y-test.false in
    layers_all tape c.loop-y.tape tape.matrix.resolution c.loop-y.y c.loop-y.turn c.loop-y.back (omega (arith, wide)) (omega (arith, at_end)) c.loop-y.invariant.clears
