use Rattle.plan_choice.proofs.Chosen.{in_turn}
use Rattle.plan_choice.proofs.many.by_crew.Goals as goal

pub returns-clause-stands : goal.returns-clause-stands
returns-clause-stands c = in_turn _ _ _ _ _ _ _ c.in_ok-boxed.ensures.stands c.in_ok-squads.ensures.stands
