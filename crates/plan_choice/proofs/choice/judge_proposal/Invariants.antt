use Rattle.plan_choice.proofs.choice.judge_proposal.Given as goal

abbrev pub ghosts-judged_in : goal.ghosts-judged_in
ghosts-judged_in a = record { name = a.blank.name; parts = a.blank.parts }
