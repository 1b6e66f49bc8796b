use Rattle.nanobot_words.specs.declared.row.Round.TheVariants.{Full, Light}
use Rattle.nanobot_app.proofs.Plans.{as_light, in_full, run_of_plan}
use Rattle.nanobot_app.proofs.laws.a_plan_is_accepted.Goals as goal

pub returns-clause-in_full : goal.returns-clause-in_full
returns-clause-in_full c = λ planner source target trace files reply first second answer done.
    run_of_plan c.a_model_is_whole.ensures.most Full planner (λ s t commands energy steps facts. in_full s t commands energy steps planner facts) source target trace files reply first second answer done

pub returns-clause-as_light : goal.returns-clause-as_light
returns-clause-as_light c = λ planner source target trace files reply light first second answer done.
    run_of_plan c.a_model_is_whole.ensures.most Light planner (λ s t commands energy steps facts. as_light s t commands energy steps planner light facts) source target trace files reply first second answer done
