use Rattle.low_planner.proofs.Builds.{built_start}
use Rattle.low_planner.proofs.plan.erect.Goals as goal

pub build-requires-clause-built : goal.build-requires-clause-built
build-requires-clause-built c = built_start c.args.target.now c.in_ok-sweep.sweep c.in_ok-tape.tape c.in_ok-sweep.ensures.remaining c.in_ok-sweep.ensures.trail c.in_ok-sweep.ensures.at c.in_ok-tape.ensures
