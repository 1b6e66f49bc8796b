use Rattle.std.proofs.Common.{◌≡◌, ℕ, ◌+◌, ◌*◌, ◌≤◌, refl, sym, ap, subst, arith, Option}
use Rattle.vox_geom.specs.declared.coordinate.Coord.{Coord}
use Rattle.vox_geom.specs.Least.{LeastOf}
use Rattle.nano_spec.specs.Matrix.{Matrix}
use Rattle.nano_spec.specs.Model.{volume}
use Rattle.vox_planes.specs.Layers.{layer_words}
use Rattle.vox_planes.proofs.Differences.{below_differ, least_all, least_more}
use Rattle.vox_planes.proofs.Totals.{words_most}
use Rattle.vox_planes.proofs.planes.Planes.equal.Goals as goal

pub loop-y-preserved : goal.loop-y-preserved
loop-y-preserved g c = record {
  least = subst (λ (o : Option Coord). LeastOf c.args.self.now.resolution (below_differ c.args.self.now c.args.other.now (c.loop-y.y + 1)) o) (sym c.earlier-least.ensures.value) (least_more c.args.self.now.resolution c.args.self.now c.args.other.now c.loop-y.y c.loop-y.least c.layer_difference.result c.loop-y.invariant.least c.layer_difference.ensures.least);
  touches = omega (arith, c.loop-y.invariant.touches, c.layer_difference.ensures.touches);
}

pub returns-clause-value : goal.returns-clause-value
returns-clause-value g c =
    let rs : c.self.inside.resolution ≡ c.args.self.now.resolution = ap (λ (m : Matrix). m.resolution) c.self.view_is in
    let end : c.loop-y.y ≡ c.args.self.now.resolution = omega arith in
    sym (least_all c.args.self.now.resolution c.args.self.now c.args.other.now c.loop-y.least (subst (λ (n : ℕ). LeastOf c.args.self.now.resolution (below_differ c.args.self.now c.args.other.now n) c.loop-y.least) end c.loop-y.invariant.least))

pub returns-clause-touches : goal.returns-clause-touches
returns-clause-touches g c =
    let rs : c.self.inside.resolution ≡ c.args.self.now.resolution = ap (λ (m : Matrix). m.resolution) c.self.view_is in
    let end : c.loop-y.y ≡ c.args.self.now.resolution = omega arith in
    let most : c.args.self.now.resolution * layer_words c.args.self.now.resolution ≤ volume c.args.self.now.resolution = words_most c.args.self.now.resolution _ (omega (arith, c.self.invariant.0.some)) refl in
    let same : c.loop-y.y * layer_words c.args.self.now.resolution ≡ c.args.self.now.resolution * layer_words c.args.self.now.resolution = ap (λ n. n * layer_words c.args.self.now.resolution) end in
    omega (arith, c.loop-y.invariant.touches)
