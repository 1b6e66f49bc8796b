use Rattle.std.proofs.Common.{◌≡◌, sym, ◌∙◌, ap, subst, ℕ}
use Rattle.vox_geom.specs.Space.{IsInSpace}
use Rattle.nano_spec.specs.Matrix.{Matrix, is_full}
use Rattle.vox_planes.specs.Layers.{bit_index, is_set}
use Rattle.vox_planes.proofs.Voxels.{is_full-layered}
use Rattle.vox_planes.proofs.planes.Planes.full_at_bit.Goals as goal

pub returns-clause-value : goal.returns-clause-value
returns-clause-value g c =
    let resolution = c.self.inside.resolution in
    let ws = c.self.inside.words.items in
    let within = subst (λ (n : ℕ). IsInSpace n c.args.c) (ap (λ (m : Matrix). m.resolution) (sym c.self.view_is)) c.requires.within in
    let bit : c.args.bit ≡ bit_index resolution c.args.c = c.requires.bit ∙ ap (λ (m : Matrix). bit_index m.resolution c.args.c) (sym c.self.view_is) in
    c.is_set.ensures
    ∙ ((λ i. is_set (c.deref.ensures.value i) (bit i))
    ∙ (sym (is_full-layered resolution ws c.args.c within)
    ∙ ap (λ (m : Matrix). is_full m c.args.c) c.self.view_is))
