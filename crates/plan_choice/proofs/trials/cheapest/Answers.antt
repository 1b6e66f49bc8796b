use Rattle.plan_choice.proofs.Chosen.{in_turn}
use Rattle.plan_choice.proofs.trials.cheapest.Goals as goal

pub loop-trial-preserved : goal.loop-trial-preserved
loop-trial-preserved c = in_turn _ _ _ _ _ _ _ c.loop-trial.invariant c.in_ok-best.ensures.stands
