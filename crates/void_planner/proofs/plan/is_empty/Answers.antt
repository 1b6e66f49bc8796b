use Rattle.void_planner.proofs.Legality.{none_counted, void_count}
use Rattle.void_planner.proofs.plan.is_empty.Goals as goal

pub returns-clause-void : goal.returns-clause-void
returns-clause-void c = λ t. none_counted c.args.planes.now (c.is_empty_in.ensures.0 t)

pub returns-clause-full : goal.returns-clause-full
returns-clause-full c = λ v. c.is_empty_in.ensures.1 (void_count c.args.planes.now v)
