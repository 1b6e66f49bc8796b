use Rattle.std.proofs.Common.{◌≡◌, ◌++◌, take}
use Rattle.step_debugger.proofs.steps.append.Given as goal

abbrev pub invariant-loop-bid : goal.invariant-loop-bid
invariant-loop-bid l = l.order.items ≡ l.fn.order.items ++ take l.bid-index l.bids
