use Rattle.std.proofs.Common.{subst}
use Rattle.vox_geom.specs.declared.coordinate.Coord.{Coord}
use Rattle.support_forest.specs.VoidingOne.{VoidsOrStays}
use Rattle.support_forest.proofs.void_one.try_void.Goals as goal

pub returns : goal.returns
returns g c = subst (λ (voxel : Coord). VoidsOrStays c.void_from_air.result c.args.cells.now c.void_from_air.new.cells voxel c.args.steps.now c.void_from_air.new.steps) c.index_of-index.ensures.voxel c.void_from_air.ensures
