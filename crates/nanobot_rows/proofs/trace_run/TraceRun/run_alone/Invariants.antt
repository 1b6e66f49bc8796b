use Rattle.std.proofs.Common.{length, take, ◌-◌, ◌≤◌}
use Rattle.nanobot_rows.specs.Alone.{IsAtCommand}
use Rattle.nanobot_rows.specs.Taking.{Takes}
use Rattle.nanobot_rows.proofs.trace_run.TraceRun.run_alone.Given as goal

abbrev pub invariant-loop-at : goal.invariant-loop-at
invariant-loop-at g l = record {
  within : l.at ≤ length l.piece;
  takes : Takes l.initial.self (take l.at l.piece) l.self l.initial.steps l.steps;
  alone : IsAtCommand l.self;
}

abbrev pub decreases-loop-at : goal.decreases-loop-at
decreases-loop-at g l = length l.piece - l.at
