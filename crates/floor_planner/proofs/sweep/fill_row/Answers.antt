use Rattle.floor_planner.specs.Floor.{IsSweptTo}
use Rattle.floor_planner.proofs.Sweeping.{row_ends}
use Rattle.std.proofs.Common.{rules, subst}
use Rattle.floor_planner.proofs.sweep.fill_row.Goals as goal

pub returns : goal.returns
returns c = row_ends c.loop-z.tape c.args.target.now c.args.x (subst (IsSweptTo c.loop-z.tape c.args.target.now c.args.x) (search rules) c.loop-z.invariant.swept)
