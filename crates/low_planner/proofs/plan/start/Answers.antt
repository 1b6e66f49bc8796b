use Rattle.std.proofs.Common.{rules}
use Rattle.low_planner.proofs.Grounds.{empty_is_grounded}
use Rattle.low_planner.proofs.plan.start.Goals as goal

pub start_as-requires-clause-grounded : goal.start_as-requires-clause-grounded
start_as-requires-clause-grounded c = empty_is_grounded c.args.target.now.resolution c.in_ok-nothing.nothing (search rules)
