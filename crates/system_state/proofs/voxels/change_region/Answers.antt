use Rattle.std.proofs.Common.{◌≡◌, ◌∙◌, arith, refl}
use Rattle.std.specs.Prelude.{count_by}
use Rattle.vox_geom.specs.Point.{point}
use Rattle.vox_geom.specs.Region.{is_within, size, span}
use Rattle.nano_spec.specs.Matrix.{all_of}
use Rattle.system_state.specs.Painting.{size_in}
use Rattle.system_state.proofs.Spans.{full_met, same_painted, same_size, void_met}
use Rattle.system_state.proofs.voxels.change_region.Goals as goal

pub returns-clause-matrix : goal.returns-clause-matrix
returns-clause-matrix g c = c.set_region-others.ensures.value ∙ same_painted c.args.matrix.now c.args.edited.region (span c.args.edited.region) (λ p. refl) c.args.edited.full

pub returns-clause-void : goal.returns-clause-void
returns-clause-void g c =
    c.met_by.ensures.void
    ∙ void_met c.args.matrix.now c.args.edited.region (span c.args.edited.region) (λ p. refl) c.args.edited.full c.set_region-others.result c.size.result c.set_region-others.ensures.count (c.size.ensures.counts c.args.matrix.now.resolution c.requires.within)

pub returns-clause-full : goal.returns-clause-full
returns-clause-full g c =
    c.met_by.ensures.full
    ∙ full_met c.args.matrix.now c.args.edited.region (span c.args.edited.region) (λ p. refl) c.args.edited.full c.set_region-others.result c.size.result c.set_region-others.ensures.count (c.size.ensures.counts c.args.matrix.now.resolution c.requires.within)

pub returns-clause-touches : goal.returns-clause-touches
returns-clause-touches g c =
    let touches = c.set_region-others.ensures.touches in
    let size_is : c.size.result ≡ size (span c.args.edited.region) = c.size.ensures.value in
    let counts : c.size.result ≡ count_by (λ d. is_within (span c.args.edited.region) (point d)) (all_of c.args.matrix.now) = c.size.ensures.counts c.args.matrix.now.resolution c.requires.within in
    let count_is : count_by (λ d. is_within (span c.args.edited.region) (point d)) (all_of c.args.matrix.now) ≡ size_in c.args.matrix.now (span c.args.edited.region) = same_size c.args.matrix.now c.args.edited.region (span c.args.edited.region) (λ p. refl) in
    omega arith
