use Rattle.std.proofs.Common.{refl, ◌∙◌, ap, arith}
use Rattle.vox_geom.specs.declared.coordinate.Coord.{Coord}
use Rattle.vox_planes.specs.Painting.{is_in_layer}
use Rattle.vox_planes.specs.Walk.{row_size}
use Rattle.vox_planes.proofs.Painting.{layer_none, painted_none, row_joined}
use Rattle.vox_planes.proofs.Walks.{left-more}
use Rattle.vox_planes.proofs.planes.Planes.set_layer.Goals as goal

pub loop-x-init : goal.loop-x-init
loop-x-init g c =
    let corners = c.args.b.now in
    let same_x = ap (λ (d : Coord). d.x) c.low-low.ensures.value in
    record {
      painted = painted_none c.args.self.now _ c.args.full c.recall.ensures.whole (λ d. ap (λ x. is_in_layer corners c.args.y x d) same_x ∙ layer_none corners c.args.y d);
      resolution = refl;
      whole = c.recall.ensures.whole;
      most = rw same_x (omega arith);
      touches = rw same_x (omega arith);
    }

pub loop-x-preserved : goal.loop-x-preserved
loop-x-preserved g c =
    let low = ap (λ (d : Coord). d.z) c.low-low.ensures.value in
    let high = ap (λ (d : Coord). d.z) c.high-high.ensures.value in
    let first = ap (λ (d : Coord). d.x) c.low-low.ensures.value in
    let last = ap (λ (d : Coord). d.x) c.high-high.ensures.value in
    let more = left-more c.args.b.now.high.x c.loop-x.x (row_size c.args.b.now) (omega arith) in
    record {
      painted = row_joined c.args.self.now c.loop-x.self c.set_row-changed.new.self c.args.b.now c.low-low.result c.high-high.result c.args.y c.loop-x.x c.args.full c.loop-x.changed c.set_row-changed.result c.low-low.ensures.value c.high-high.ensures.value (omega arith) c.loop-x.invariant.painted c.set_row-changed.ensures.painted;
      resolution = c.set_row-changed.ensures.resolution ∙ c.loop-x.invariant.resolution;
      whole = c.set_row-changed.ensures.whole;
      most = omega (arith, more, c.loop-x.invariant.most, c.set_row-changed.ensures.most);
      touches = omega (arith, more, c.loop-x.invariant.touches, c.set_row-changed.ensures.touches);
    }
