use Rattle.std.proofs.Common.{◌≡◌, ◌+◌, ◌≤◌, ◌&&◌, ℕ, ◌∙◌, ap, sym, subst}
use Rattle.vox_geom.specs.Space.{IsInSpace}
use Rattle.nano_spec.specs.Matrix.{Matrix, is_full}
use Rattle.nano_spec.specs.Model.{bit}
use Rattle.vox_planes.specs.Layers.{is_set}
use Rattle.vox_planes.specs.Walk.{at}
use Rattle.vox_planes.proofs.TakenBits.{row_peeked}
use Rattle.vox_planes.proofs.planes.Planes.peek_row.Goals as goal

pub returns-clause-full : goal.returns-clause-full
returns-clause-full g c =
    let resolution = c.self.inside.resolution in
    let ws = c.self.inside.words.items in
    let same : c.args.self.now.resolution ≡ resolution = ap (λ (m : Matrix). m.resolution) (sym c.self.view_is) in
    let within = subst (λ (n : ℕ). IsInSpace n c.args.first) same c.requires.within in
    let row = subst (λ (n : ℕ). c.args.first.z + c.args.count ≤ n) same c.requires.row in
    λ k l.
    row_peeked resolution ws c.args.first c.args.count c.args.bits c.peek_bits.result within row
    (λ j m. c.peek_bits.ensures.full j m ∙ (λ i. bit c.args.bits j && is_set (c.deref.ensures.value i) (c.bit_index-index.ensures.value i + j))) k l
    ∙ ap (λ (m : Matrix). bit c.args.bits k && is_full m (at c.args.first (c.args.first.z + k))) c.self.view_is
