use Rattle.std.proofs.Common.{subst}
use Rattle.nano_spec.specs.Matrix.{Matrix}
use Rattle.vox_planes.specs.Voxel.{IsWhole}
use Rattle.vox_planes.proofs.Voxels.{layered_whole}
use Rattle.vox_planes.proofs.planes.Planes.recall.Goals as goal

pub returns : goal.returns
returns c = record { whole = subst (λ (m : Matrix). IsWhole m) c.self.view_is (layered_whole _ _ c.self.invariant.0) }
