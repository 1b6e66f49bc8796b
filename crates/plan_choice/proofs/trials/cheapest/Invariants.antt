use Rattle.plan_choice.specs.Better.{MayStandFor}
use Rattle.plan_choice.proofs.trials.cheapest.Given as goal

abbrev pub invariant-loop-trial : goal.invariant-loop-trial
invariant-loop-trial l = MayStandFor l.source l.target l.profile l.most l.fn.plan l.best
