use Rattle.std.proofs.Common.{◌≡◌, ◌+◌, ◌*◌, ◌<◌, ◌∙◌, not, sym, ap, subst, arith}
use Rattle.nano_spec.specs.Matrix.{Matrix}
use Rattle.void_planner.specs.Square.{Clears, steps_to}
use Rattle.void_planner.specs.Tiles.{IsVoidStrip, edge, far_of, place_of, turned}
use Rattle.void_planner.specs.Bounds.{tiles_of}
use Rattle.void_planner.proofs.Sweeps.{layer_limit, layer_on, layer_void, strips_more}
use Rattle.void_planner.proofs.sweep.void_layer.Goals as goal
use Rattle.vox_geom.specs.Point.{coord}

pub void_strip-requires-clause-limit : goal.void_strip-requires-clause-limit
void_strip-requires-clause-limit c =
    let tape = c.args.tape.now in
    let tape_so_far = c.loop-k.tape in
    let resolution = tape.matrix.resolution in
    let size = c.resolution-r.ensures.value ∙ ap (λ (m : Matrix). m.resolution) c.matrix.ensures.value in
    let count = c.tiles-count.ensures.value ∙ ap tiles_of size in
    let place_is : c.place.result ≡ place_of resolution (turned (tiles_of resolution) c.args.turn c.loop-k.k) = c.place.ensures ∙ ((λ i. place_of (size i) c.turn_number.result) ∙ ap (place_of resolution) (c.turn_number.ensures ∙ ap (λ n. turned n c.args.turn c.loop-k.k) count)) in
    let goes_on = c.loop-k-test.true in
    subst (λ s. steps_to tape_so_far (coord c.place.result (c.args.y + 1) (edge s c.loop-k.next)) + 4 * tiles_of s < 1073741824) (sym c.loop-k.invariant.clears.resolution)
    (subst (λ v. steps_to tape_so_far (coord v (c.args.y + 1) (edge resolution c.loop-k.next)) + 4 * tiles_of resolution < 1073741824) (sym place_is)
    (layer_limit tape tape_so_far resolution c.args.turn c.args.back c.loop-k.next c.args.y c.loop-k.k 1073741824 (omega (arith, count, goes_on)) c.loop-k.invariant.clears c.requires.limit))

pub loop-k-preserved : goal.loop-k-preserved
loop-k-preserved c =
    let tape = c.args.tape.now in
    let tape_so_far = c.loop-k.tape in
    let tape_after_void_strip = c.void_strip.new.tape in
    let resolution = tape.matrix.resolution in
    let size = c.resolution-r.ensures.value ∙ ap (λ (m : Matrix). m.resolution) c.matrix.ensures.value in
    let count = c.tiles-count.ensures.value ∙ ap tiles_of size in
    let place_is : c.place.result ≡ place_of resolution (turned (tiles_of resolution) c.args.turn c.loop-k.k) = c.place.ensures ∙ ((λ i. place_of (size i) c.turn_number.result) ∙ ap (place_of resolution) (c.turn_number.ensures ∙ ap (λ n. turned n c.args.turn c.loop-k.k) count)) in
    let void_strip_ensured = c.in_ok-void_strip.ensures in
    let same = c.loop-k.invariant.clears.resolution in
    record {
      clears = layer_on tape tape_so_far tape_after_void_strip resolution c.args.turn c.args.back c.loop-k.next c.args.y c.loop-k.k c.loop-k.invariant.clears
          (subst (λ v. Clears tape_so_far tape_after_void_strip (coord v (c.args.y + 1) (edge resolution c.loop-k.next)) (coord v (c.args.y + 1) (edge resolution (not c.loop-k.next))) (4 * tiles_of resolution)) place_is
          (subst (λ s. Clears tape_so_far tape_after_void_strip (coord c.place.result (c.args.y + 1) (edge s c.loop-k.next)) (coord c.place.result (c.args.y + 1) (edge s (not c.loop-k.next))) (4 * tiles_of s)) same void_strip_ensured.clears));
      void = strips_more tape_so_far.matrix tape_after_void_strip.matrix resolution c.args.turn c.args.y c.loop-k.k void_strip_ensured.clears.fewer c.loop-k.invariant.void
          (subst (λ v. IsVoidStrip tape_after_void_strip.matrix (far_of resolution) v c.args.y resolution) place_is (subst (λ s. IsVoidStrip tape_after_void_strip.matrix (far_of s) c.place.result c.args.y s) same void_strip_ensured.void));
    }

pub returns-clause-void : goal.returns-clause-void
returns-clause-void c =
    let count_is = c.tiles-count.ensures.value ∙ ap tiles_of (c.resolution-r.ensures.value ∙ ap (λ (m : Matrix). m.resolution) c.matrix.ensures.value) in
    let at_end = c.loop-k-test.false in
    layer_void c.loop-k.tape.matrix c.args.tape.now.matrix.resolution c.args.turn c.args.y c.loop-k.invariant.clears.resolution (λ i l. c.loop-k.invariant.void i (omega (arith, count_is, l, at_end)))
