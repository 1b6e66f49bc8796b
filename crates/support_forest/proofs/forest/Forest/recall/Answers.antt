use Rattle.std.proofs.Common.{◌≡◌, subst, length}
use Rattle.nano_spec.specs.Model.{volume}
use Rattle.support_forest.specs.ForestView.{ForestView}
use Rattle.support_forest.proofs.ForestView.{whole_of}
use Rattle.support_forest.proofs.forest.Forest.recall.Goals as goal

pub returns : goal.returns
returns c = record { whole = subst (λ (q : ForestView). length q.matrix.voxels ≡ volume q.matrix.resolution) c.self.view_is (whole_of c.self.inside.cells) }
