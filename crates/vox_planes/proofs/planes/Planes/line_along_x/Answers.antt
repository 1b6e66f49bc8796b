use Rattle.std.proofs.Common.{ℕ, ◌+◌, Some, sym, ◌∙◌, ap, subst, arith}
use Rattle.vox_geom.specs.declared.coordinate.Coord.{Coord}
use Rattle.vox_geom.specs.Space.{IsInSpace}
use Rattle.nano_spec.specs.Matrix.{Matrix}
use Rattle.vox_planes.specs.Layers.{bit_index}
use Rattle.vox_planes.proofs.Lines.{all_as, first_as, found_x, none_x, within_x}
use Rattle.vox_planes.proofs.planes.Planes.line_along_x.Goals as goal

pub next_apart-requires-clause-within : goal.next_apart-requires-clause-within
next_apart-requires-clause-within g c = λ n l.
    let space = subst (λ (n : ℕ). IsInSpace n c.args.b.now.high) (sym (ap (λ (m : Matrix). m.resolution) c.self.view_is)) c.requires.within in
    let start = c.bit_index-first.ensures.value ∙ ap (bit_index c.self.inside.resolution) c.low-low.ensures.value in
    let low = ap (λ (d : Coord). d.x) c.low-low.ensures.value in
    let high = ap (λ (d : Coord). d.x) c.high-high.ensures.value in
    within_x c.self.inside.resolution c.self.inside.words.items c.args.self.now c.args.b.now c.self.view_is c.low-low.ensures.ordered space c.requires.y c.requires.z c.deref.result.now c.bit_index-first.result _ c.deref.ensures.value start c.from-apart.ensures c.self.invariant.0.whole n (omega (arith, low, high, c.low-low.ensures.ordered.x))

pub returns-in_default-clause-value : goal.returns-in_default-clause-value
returns-in_default-clause-value g c =
    let space = subst (λ (n : ℕ). IsInSpace n c.args.b.now.high) (sym (ap (λ (m : Matrix). m.resolution) c.self.view_is)) c.requires.within in
    let start = c.bit_index-first.ensures.value ∙ ap (bit_index c.self.inside.resolution) c.low-low.ensures.value in
    let low = ap (λ (d : Coord). d.x) c.low-low.ensures.value in
    let high = ap (λ (d : Coord). d.x) c.high-high.ensures.value in
    none_x c.self.inside.resolution c.self.inside.words.items c.args.self.now c.args.b.now c.self.view_is c.low-low.ensures.ordered space c.requires.y c.requires.z
    (all_as c.deref.result.now c.self.inside.words.items c.bit_index-first.result _ _ c.self.inside.resolution _ _ c.deref.ensures.value start c.from-apart.ensures (omega (arith, low, high, c.low-low.ensures.ordered.x)) c.in_default.ensures.none)

pub returns-clause-value : goal.returns-clause-value
returns-clause-value g c =
    let space = subst (λ (n : ℕ). IsInSpace n c.args.b.now.high) (sym (ap (λ (m : Matrix). m.resolution) c.self.view_is)) c.requires.within in
    let start = c.bit_index-first.ensures.value ∙ ap (bit_index c.self.inside.resolution) c.low-low.ensures.value in
    let low = ap (λ (d : Coord). d.x) c.low-low.ensures.value in
    let high = ap (λ (d : Coord). d.x) c.high-high.ensures.value in
    ap (λ (d : Coord). Some (record { x = d.x + c.in-Some.n; y = d.y; z = d.z })) c.low-low.ensures.value
    ∙ found_x c.self.inside.resolution c.self.inside.words.items c.args.self.now c.args.b.now c.self.view_is c.low-low.ensures.ordered space c.requires.y c.requires.z c.in-Some.n (omega (arith, low, high, c.low-low.ensures.ordered.x, c.in-Some.ensures.below))
    (first_as c.deref.result.now c.self.inside.words.items c.bit_index-first.result _ _ c.self.inside.resolution c.in-Some.n c.deref.ensures.value start c.from-apart.ensures c.in-Some.ensures.found)
