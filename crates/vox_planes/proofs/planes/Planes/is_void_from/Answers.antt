use Rattle.std.proofs.Common.{◌*◌, ap, ◌∙◌, arith}
use Rattle.vox_geom.proofs.Truths.{false_by}
use Rattle.nano_spec.specs.Matrix.{Matrix, is_full}
use Rattle.vox_planes.proofs.Ends.{void_above}
use Rattle.vox_planes.proofs.planes.Planes.is_void_from.Goals as goal

pub returns-clause-void : goal.returns-clause-void
returns-clause-void g c = λ known d from. false_by (is_full c.args.self.now d) (λ full.
    void_above c.self.inside.resolution c.self.inside.words.items d c.self.inside.end c.args.y c.self.invariant.0 c.self.invariant.2 (omega (arith, ap (λ n. n * c.self.inside.layer) c.from.ensures, ap (λ n. c.args.y * n) c.self.invariant.1)) from (ap (λ (m : Matrix). is_full m d) c.self.view_is ∙ full))
