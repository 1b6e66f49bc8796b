use Rattle.support_forest.proofs.Voxels.{whole_row_there}
use Rattle.support_forest.proofs.segment.start_of_row.Goals as goal

pub returns-clause-first : goal.returns-clause-first
returns-clause-first c = λ side. whole_row_there side c.args.index
