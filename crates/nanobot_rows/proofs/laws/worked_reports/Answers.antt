use Rattle.nanobot_rows.proofs.Examples.{worked_bounds, worked_lengths, worked_limits, worked_lines, worked_statuses}
use Rattle.nanobot_rows.proofs.laws.worked_reports.Goals as goal

pub returns-clause-lines : goal.returns-clause-lines
returns-clause-lines c = worked_lines

pub returns-clause-limits : goal.returns-clause-limits
returns-clause-limits c = worked_limits

pub returns-clause-bounds : goal.returns-clause-bounds
returns-clause-bounds c = worked_bounds

pub returns-clause-statuses : goal.returns-clause-statuses
returns-clause-statuses c = worked_statuses

pub returns-clause-lengths : goal.returns-clause-lengths
returns-clause-lengths c = worked_lengths
