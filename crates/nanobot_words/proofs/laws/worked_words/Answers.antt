use Rattle.nanobot_words.proofs.Examples.{worked_files, worked_forged, worked_permissions, worked_rows, worked_sides, worked_words}
use Rattle.nanobot_words.proofs.laws.worked_words.Goals as goal

pub returns-clause-words : goal.returns-clause-words
returns-clause-words c = worked_words

pub returns-clause-files : goal.returns-clause-files
returns-clause-files c = worked_files

pub returns-clause-sides : goal.returns-clause-sides
returns-clause-sides c = worked_sides

pub returns-clause-forged : goal.returns-clause-forged
returns-clause-forged c = worked_forged

pub returns-clause-rows : goal.returns-clause-rows
returns-clause-rows c = worked_rows

pub returns-clause-permissions : goal.returns-clause-permissions
returns-clause-permissions c = worked_permissions
