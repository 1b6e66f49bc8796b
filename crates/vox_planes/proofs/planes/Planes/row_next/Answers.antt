use Rattle.std.proofs.Common.{◌≡◌, ℕ, ◌+◌, ◌-◌, Some, sym, ◌∙◌, ap, subst, arith}
use Rattle.vox_geom.specs.Space.{IsInSpace}
use Rattle.nano_spec.specs.Matrix.{Matrix}
use Rattle.vox_planes.specs.Layers.{bit_index}
use Rattle.vox_planes.specs.Walk.{at}
use Rattle.vox_planes.proofs.Searches.{free_as, next_as, row_found, row_free}
use Rattle.vox_planes.proofs.planes.Planes.row_next.Goals as goal

pub returns-in_default-clause-value : goal.returns-in_default-clause-value
returns-in_default-clause-value g c =
    let same_resolution : c.self.inside.resolution ≡ c.args.self.now.resolution = ap (λ (m : Matrix). m.resolution) c.self.view_is in
    let end = c.bit_index-start.ensures.value in
    let free = free_as c.deref.result.now c.self.inside.words.items c.bit_index-start.result (bit_index c.self.inside.resolution c.args.first) _ (bit_index c.self.inside.resolution c.args.first + (c.args.last - c.args.first.z) + 1) c.args.full c.deref.ensures.value end (omega (arith, end, c.from.ensures)) c.in_default.ensures.none in
    sym (row_free c.self.inside.resolution c.self.inside.words.items c.args.self.now c.args.first c.args.last c.args.full c.self.view_is (subst (λ (n : ℕ). IsInSpace n c.args.first) (sym same_resolution) c.requires.within) (omega (arith, c.requires.end)) c.requires.order free)

pub returns-clause-value : goal.returns-clause-value
returns-clause-value g c =
    let same_resolution : c.self.inside.resolution ≡ c.args.self.now.resolution = ap (λ (m : Matrix). m.resolution) c.self.view_is in
    let start = c.bit_index-start.ensures.value in
    let next = next_as c.deref.result.now c.self.inside.words.items c.bit_index-start.result (bit_index c.self.inside.resolution c.args.first) c.in-Some.i c.args.full c.deref.ensures.value start c.in-Some.ensures.found in
    ap (λ s. Some (at c.args.first (c.args.first.z + (c.in-Some.i - s)))) start
    ∙ sym (row_found c.self.inside.resolution c.self.inside.words.items c.args.self.now c.args.first c.args.last c.in-Some.i c.args.full c.self.view_is (subst (λ (n : ℕ). IsInSpace n c.args.first) (sym same_resolution) c.requires.within) (omega (arith, c.requires.end)) (omega (arith, start, c.from.ensures, c.in-Some.ensures.before_end)) c.requires.order next)
