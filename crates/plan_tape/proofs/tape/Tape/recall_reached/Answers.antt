use Rattle.std.proofs.Common.{subst}
use Rattle.plan_tape.proofs.Steps.{IsRun}
use Rattle.plan_tape.proofs.tape.Tape.recall_reached.Goals as goal

pub returns : goal.returns
returns c = record { reached = subst IsRun c.self.view_is c.self.invariant.reaches }
