use Rattle.std.proofs.Common.{◌≡◌, ◌+◌, ◌-◌, ◌≤◌, false, length}
use Rattle.nanobot_rows.proofs.Paying.{IsPaying}
use Rattle.nanobot_rows.proofs.Tracing.{IsUnderway}
use Rattle.nanobot_rows.proofs.trace.run_trace.Given as goal

abbrev pub invariant-pieces : goal.invariant-pieces
invariant-pieces g l = record {
  underway : IsUnderway (g.D.Depot.files l.fn.depot) l.name l.fn.source l.fn.profile l.at l.run;
  within : l.at ≤ 1073741824;
  offset : l.run.decoder.offset + length l.run.decoder.held ≤ l.at;
  resolution : l.run.run.progress.state.matrix.resolution ≡ l.fn.source.resolution;
  stands : l.run.run.spent ≡ false;
  files : g.D.Depot.files l.depot ≡ g.D.Depot.files l.fn.depot;
  later : g.D.Depot.faults l.fn.depot ≤ g.D.Depot.faults l.depot;
  stores : g.D.Depot.failed_stores l.depot ≡ g.D.Depot.failed_stores l.fn.depot;
  paying : IsPaying (g.D.Depot.files l.fn.depot) l.name l.fn.source l.fn.profile l.at l.run l.initial.steps l.steps;
}

abbrev pub decreases-pieces : goal.decreases-pieces
decreases-pieces g l = 1073741824 - l.at
