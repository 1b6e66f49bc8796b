use Rattle.std.proofs.Common.{◌≡◌, ℕ, ◌^◌, ◌<◌, refl, sym, ◌∙◌, ap, subst, arith, bit_xor, None}
use Rattle.std.proofs.lemmas.Nat.{xor_lt}
use Rattle.vox_geom.specs.Least.{LeastOf}
use Rattle.nano_spec.specs.Matrix.{Matrix}
use Rattle.vox_planes.specs.Difference.{in_layer_differ}
use Rattle.vox_planes.proofs.Differences.{alike_more, all_alike, read_by, read_differs}
use Rattle.vox_planes.proofs.planes.Planes.layer_difference.Goals as goal

pub overflow_cast-result : goal.overflow_cast-result
overflow_cast-result g c =
    let same_resolution : c.self.inside.resolution ≡ c.other.inside.resolution = ap (λ (m : Matrix). m.resolution) c.self.view_is ∙ (c.requires.same ∙ sym (ap (λ (m : Matrix). m.resolution) c.other.view_is)) in
    let rs : c.self.inside.resolution ≡ c.args.self.now.resolution = ap (λ (m : Matrix). m.resolution) c.self.view_is in
    let read = read_by c.self.inside.resolution c.other.inside.resolution c.self.inside.words.items c.other.inside.words.items c.args.y c.loop-i.i _ c.from.result c.self.inside.layer c.index.result.now c.index-in-loop-i.result.now c.self.invariant.0 c.other.invariant.0 same_resolution (omega (arith, c.requires.within)) c.loop-i-test.true c.self.invariant.1 c.from.ensures refl c.index.ensures c.index-in-loop-i.ensures c.loop-i.invariant.alike in
    let xor : bit_xor c.index.result.now c.index-in-loop-i.result.now < 2 ^ 64 = xor_lt 64 c.index.result.now c.index-in-loop-i.result.now (omega arith) (omega arith) in
    let found = read_differs c.self.inside.resolution c.other.inside.resolution c.self.inside.words.items c.other.inside.words.items c.args.self.now c.args.other.now c.args.y c.loop-i.i _ c.self.inside.layer c.index.result.now c.index-in-loop-i.result.now c.from-side.result read same_resolution c.self.view_is c.other.view_is c.from-side.ensures c.if-difference-ne0.true xor in
    omega (arith, found.0, c.self.invariant.0.most)

pub returns-then-difference-ne0-clause-least : goal.returns-then-difference-ne0-clause-least
returns-then-difference-ne0-clause-least g c =
    let same_resolution : c.self.inside.resolution ≡ c.other.inside.resolution = ap (λ (m : Matrix). m.resolution) c.self.view_is ∙ (c.requires.same ∙ sym (ap (λ (m : Matrix). m.resolution) c.other.view_is)) in
    let rs : c.self.inside.resolution ≡ c.args.self.now.resolution = ap (λ (m : Matrix). m.resolution) c.self.view_is in
    let read = read_by c.self.inside.resolution c.other.inside.resolution c.self.inside.words.items c.other.inside.words.items c.args.y c.loop-i.i _ c.from.result c.self.inside.layer c.index.result.now c.index-in-loop-i.result.now c.self.invariant.0 c.other.invariant.0 same_resolution (omega (arith, c.requires.within)) c.loop-i-test.true c.self.invariant.1 c.from.ensures refl c.index.ensures c.index-in-loop-i.ensures c.loop-i.invariant.alike in
    let xor : bit_xor c.index.result.now c.index-in-loop-i.result.now < 2 ^ 64 = xor_lt 64 c.index.result.now c.index-in-loop-i.result.now (omega arith) (omega arith) in
    let found = read_differs c.self.inside.resolution c.other.inside.resolution c.self.inside.words.items c.other.inside.words.items c.args.self.now c.args.other.now c.args.y c.loop-i.i _ c.self.inside.layer c.index.result.now c.index-in-loop-i.result.now c.from-side.result read same_resolution c.self.view_is c.other.view_is c.from-side.ensures c.if-difference-ne0.true xor in
    found.1

pub loop-i-preserved : goal.loop-i-preserved
loop-i-preserved g c =
    let same_resolution : c.self.inside.resolution ≡ c.other.inside.resolution = ap (λ (m : Matrix). m.resolution) c.self.view_is ∙ (c.requires.same ∙ sym (ap (λ (m : Matrix). m.resolution) c.other.view_is)) in
    let rs : c.self.inside.resolution ≡ c.args.self.now.resolution = ap (λ (m : Matrix). m.resolution) c.self.view_is in
    let read = read_by c.self.inside.resolution c.other.inside.resolution c.self.inside.words.items c.other.inside.words.items c.args.y c.loop-i.i _ c.from.result c.self.inside.layer c.index.result.now c.index-in-loop-i.result.now c.self.invariant.0 c.other.invariant.0 same_resolution (omega (arith, c.requires.within)) c.loop-i-test.true c.self.invariant.1 c.from.ensures refl c.index.ensures c.index-in-loop-i.ensures c.loop-i.invariant.alike in
    record {
      alike = alike_more c.self.inside.words.items c.other.inside.words.items _ c.loop-i.i c.index.result.now c.index-in-loop-i.result.now read.word read.other c.if-difference-ne0.false c.loop-i.invariant.alike;
      touches = omega (arith, c.loop-i.invariant.touches, c.tick.ensures, c.tick-in-loop-i.ensures);
    }

pub returns-clause-least : goal.returns-clause-least
returns-clause-least g c =
    let same_resolution : c.self.inside.resolution ≡ c.other.inside.resolution = ap (λ (m : Matrix). m.resolution) c.self.view_is ∙ (c.requires.same ∙ sym (ap (λ (m : Matrix). m.resolution) c.other.view_is)) in
    let end : c.loop-i.i ≡ c.self.inside.layer = omega arith in
    let none = all_alike c.self.inside.resolution c.other.inside.resolution c.self.inside.words.items c.other.inside.words.items c.args.self.now c.args.other.now c.args.y c.loop-i.i _ c.from.result c.self.inside.layer same_resolution c.self.view_is c.other.view_is c.self.invariant.1 c.from.ensures refl end c.loop-i.invariant.alike in
    subst (λ (n : ℕ). LeastOf n (in_layer_differ c.args.self.now c.args.other.now c.args.y) None) (ap (λ (m : Matrix). m.resolution) c.self.view_is) none
