use Rattle.support_forest.specs.Indices.{voxel_in}
use Rattle.support_forest.specs.Segments.{AreCleared}
use Rattle.support_forest.proofs.segment.clear_voxels.Given as goal

abbrev pub invariant-loop-left : goal.invariant-loop-left
invariant-loop-left g l = AreCleared l.initial.cells l.cells (voxel_in l.initial.cells l.index) l.left l.count l.initial.steps l.steps

abbrev pub decreases-loop-left : goal.decreases-loop-left
decreases-loop-left g l = l.left
