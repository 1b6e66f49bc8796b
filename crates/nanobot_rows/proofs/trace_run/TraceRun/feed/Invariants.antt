use Rattle.std.proofs.Common.{length, take, ◌-◌, ◌≤◌}
use Rattle.nanobot_rows.specs.Taking.{Takes}
use Rattle.nanobot_rows.proofs.trace_run.TraceRun.feed.Given as goal

abbrev pub invariant-loop-at : goal.invariant-loop-at
invariant-loop-at g l = (l.at ≤ length l.piece) × Takes l.initial.self (take l.at l.piece) l.self l.initial.steps l.steps

abbrev pub decreases-loop-at : goal.decreases-loop-at
decreases-loop-at g l = length l.piece - l.at
