use Rattle.trace_judge.proofs.Judging.{paid_at_first, paid_on, paid_within}
use Rattle.trace_judge.proofs.laws.the_work_pays.Goals as goal

pub returns-clause-first : goal.returns-clause-first
returns-clause-first c = paid_at_first

pub returns-clause-push : goal.returns-clause-push
returns-clause-push c = paid_on

pub returns-clause-all : goal.returns-clause-all
returns-clause-all c = paid_within
