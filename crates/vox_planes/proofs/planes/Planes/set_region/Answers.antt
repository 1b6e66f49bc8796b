use Rattle.std.proofs.Common.{◌≡◌, ℕ, ◌+◌, refl, ◌∙◌, ap, subst, arith}
use Rattle.vox_geom.specs.declared.coordinate.Coord.{Coord}
use Rattle.vox_planes.specs.Painting.{IsPainted, is_in_layers}
use Rattle.vox_planes.specs.Walk.{layer_size}
use Rattle.vox_planes.proofs.Painting.{layer_joined, layers_none, painted_all, painted_none, size-layers}
use Rattle.vox_planes.proofs.Walks.{left-more}
use Rattle.vox_planes.proofs.planes.Planes.set_region.Goals as goal

pub loop-y-init : goal.loop-y-init
loop-y-init g c =
    let corners = c.args.b.now in
    let same_y = ap (λ (d : Coord). d.y) c.low-low.ensures.value in
    record {
      painted = painted_none c.args.self.now _ c.args.full c.recall.ensures.whole (λ d. ap (λ y. is_in_layers corners y d) same_y ∙ layers_none corners d);
      resolution = refl;
      whole = c.recall.ensures.whole;
      most = rw same_y (omega (arith, size-layers corners c.low-low.ensures.ordered));
      touches = rw same_y (omega (arith, size-layers corners c.low-low.ensures.ordered));
    }

pub loop-y-preserved : goal.loop-y-preserved
loop-y-preserved g c =
    let first = ap (λ (d : Coord). d.y) c.low-low.ensures.value in
    let last = ap (λ (d : Coord). d.y) c.high-high.ensures.value in
    let more = left-more c.args.b.now.high.y c.loop-y.y (layer_size c.args.b.now) (omega arith) in
    record {
      painted = layer_joined c.args.self.now c.loop-y.self c.set_layer-changed.new.self c.args.b.now c.loop-y.y c.args.full c.loop-y.changed c.set_layer-changed.result (omega arith) c.loop-y.invariant.painted c.set_layer-changed.ensures.painted;
      resolution = c.set_layer-changed.ensures.resolution ∙ c.loop-y.invariant.resolution;
      whole = c.set_layer-changed.ensures.whole;
      most = omega (arith, more, c.loop-y.invariant.most, c.set_layer-changed.ensures.most);
      touches = omega (arith, more, c.loop-y.invariant.touches, c.set_layer-changed.ensures.touches);
    }

pub returns-clause-value : goal.returns-clause-value
returns-clause-value g c =
    let last = ap (λ (d : Coord). d.y) c.high-high.ensures.value in
    let first = ap (λ (d : Coord). d.y) c.low-low.ensures.value in
    let end : c.loop-y.y ≡ c.args.b.now.high.y + 1 = omega (arith, c.low-low.ensures.ordered.y) in
    let all = painted_all c.args.self.now c.loop-y.self c.args.b.now c.args.full c.loop-y.changed c.low-low.ensures.ordered (subst (λ (y : ℕ). IsPainted c.args.self.now c.loop-y.self (is_in_layers c.args.b.now y) c.args.full c.loop-y.changed) end c.loop-y.invariant.painted) in
    all.value

pub returns-clause-count : goal.returns-clause-count
returns-clause-count g c =
    let last = ap (λ (d : Coord). d.y) c.high-high.ensures.value in
    let first = ap (λ (d : Coord). d.y) c.low-low.ensures.value in
    let end : c.loop-y.y ≡ c.args.b.now.high.y + 1 = omega (arith, c.low-low.ensures.ordered.y) in
    let all = painted_all c.args.self.now c.loop-y.self c.args.b.now c.args.full c.loop-y.changed c.low-low.ensures.ordered (subst (λ (y : ℕ). IsPainted c.args.self.now c.loop-y.self (is_in_layers c.args.b.now y) c.args.full c.loop-y.changed) end c.loop-y.invariant.painted) in
    all.count
