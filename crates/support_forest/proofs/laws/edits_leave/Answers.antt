use Rattle.support_forest.proofs.Editing.{left_by, same_resolution}
use Rattle.support_forest.proofs.laws.edits_leave.Goals as goal

pub returns-clause-full : goal.returns-clause-full
returns-clause-full c = left_by

pub returns-clause-resolution : goal.returns-clause-resolution
returns-clause-resolution c = same_resolution
