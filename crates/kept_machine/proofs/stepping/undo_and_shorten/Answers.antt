use Rattle.kept_machine.specs.Kept.{trace_of}
use Rattle.kept_machine.proofs.stepping.undo_and_shorten.Goals as goal

pub returns-then-not-take_back-clause-back : goal.returns-then-not-take_back-clause-back
returns-then-not-take_back-clause-back g c = c.if-not-take_back.ensures.back (trace_of c.args.trace.now)
