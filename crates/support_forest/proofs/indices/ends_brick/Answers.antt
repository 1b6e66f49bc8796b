use Rattle.std.proofs.Common.{arith}
use Rattle.support_forest.proofs.Nexts.{ends_or_stays_far, ends_or_stays_left, ends_or_stays_near, ends_or_stays_over, ends_or_stays_right, ends_or_stays_under}
use Rattle.support_forest.proofs.indices.ends_brick.Goals as goal

pub returns-in-1 : goal.returns-in-1
returns-in-1 g c = λ side. ends_or_stays_left side c.args.index g.row.D (let case_is = c.in-1.is in omega arith)

pub returns-in-2 : goal.returns-in-2
returns-in-2 g c = λ side. ends_or_stays_right side c.args.index g.row.D (let case_is = c.in-2.is in omega arith)

pub returns-in-3 : goal.returns-in-3
returns-in-3 g c = λ side. ends_or_stays_under side c.args.index g.row.D (let case_is = c.in-3.is in omega arith)

pub returns-in-4 : goal.returns-in-4
returns-in-4 g c = λ side. ends_or_stays_over side c.args.index g.row.D (let case_is = c.in-4.is in omega arith)

pub returns-in-5 : goal.returns-in-5
returns-in-5 g c = λ side. ends_or_stays_near side c.args.index g.row.D (let case_is = c.in-5.is in omega arith)

pub returns-in_default : goal.returns-in_default
returns-in_default g c = λ side. ends_or_stays_far side c.args.index g.row.D (let in_default = c.in_default in let direction_required = c.requires in grind arith)
