use Rattle.std.proofs.Common.{◌≡◌, ◌+◌, ◌∙◌, ap, subst, arith}
use Rattle.nano_spec.specs.Matrix.{Matrix}
use Rattle.void_planner.specs.Square.{Clears}
use Rattle.void_planner.specs.Tiles.{IsVoidTile, far_of, place_of, turned}
use Rattle.void_planner.specs.Bounds.{tiles_of}
use Rattle.void_planner.proofs.Sweeps.{clears_on, strip_on, strip_void, tiles_more}
use Rattle.void_planner.proofs.sweep.void_strip.Goals as goal
use Rattle.vox_geom.specs.Point.{coord}

pub returns-clause-void : goal.returns-clause-void
returns-clause-void c =
    let count_is = c.tiles-count.ensures.value ∙ ap tiles_of (c.resolution-r.ensures.value ∙ ap (λ (m : Matrix). m.resolution) c.matrix.ensures.value) in
    let at_end = c.loop-k-test.false in
    strip_void c.loop-k.tape.matrix c.args.tape.now.matrix.resolution c.args.back c.args.x c.args.y (λ i l. c.loop-k.invariant.void i (omega (arith, count_is, l, at_end)))

pub void_tile-requires-clause-ready : goal.void_tile-requires-clause-ready
void_tile-requires-clause-ready c = clears_on c.args.tape.now c.loop-k.tape _ _ _ c.args.y c.requires.ready c.loop-k.invariant.clears

pub loop-k-preserved : goal.loop-k-preserved
loop-k-preserved c =
    let tape = c.args.tape.now in
    let tape_so_far = c.loop-k.tape in
    let tape_after_void_tile = c.void_tile.new.tape in
    let resolution = tape.matrix.resolution in
    let x = c.args.x in
    let y = c.args.y in
    let size = c.resolution-r.ensures.value ∙ ap (λ (m : Matrix). m.resolution) c.matrix.ensures.value in
    let count = c.tiles-count.ensures.value ∙ ap tiles_of size in
    let place_is : c.place.result ≡ place_of resolution (turned (tiles_of resolution) c.args.back c.loop-k.k) = c.place.ensures ∙ ((λ i. place_of (size i) c.turn_number.result) ∙ ap (place_of resolution) (c.turn_number.ensures ∙ ap (λ n. turned n c.args.back c.loop-k.k) count)) in
    let void_tile_ensured = c.in_ok-void_tile.ensures in
    record {
      clears = strip_on tape tape_so_far tape_after_void_tile resolution c.args.back x y c.loop-k.k c.loop-k.invariant.clears (subst (λ v. Clears tape_so_far tape_after_void_tile (coord x (y + 1) v) (coord x (y + 1) v) 1) place_is void_tile_ensured.clears);
      void = tiles_more tape_so_far.matrix tape_after_void_tile.matrix resolution c.args.back x y c.loop-k.k void_tile_ensured.clears.fewer c.loop-k.invariant.void
          (subst (λ v. IsVoidTile tape_after_void_tile.matrix (far_of resolution) x y v) place_is (subst (λ s. IsVoidTile tape_after_void_tile.matrix (far_of s) x y c.place.result) c.loop-k.invariant.clears.resolution void_tile_ensured.void));
    }
