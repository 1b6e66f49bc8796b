use Rattle.std.proofs.Common.{arith}
use Rattle.step_debugger.proofs.Grouping.{not_found}
use Rattle.step_debugger.proofs.steps.place_of.Goals as goal

pub returns-clause-none : goal.returns-clause-none
returns-clause-none c = not_found c.args.bids.now c.args.bid c.loop-i.i (let past = c.loop-i-test.false in omega (arith, past)) c.loop-i.invariant
