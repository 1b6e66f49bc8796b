use Rattle.vox_depot.proofs.Trees.{files_of-empty}
use Rattle.vox_depot.proofs.memory_depot.MemoryDepot.new.Goals as goal

pub returns-clause-files : goal.returns-clause-files
returns-clause-files c = files_of-empty _ c.new.ensures.empty
