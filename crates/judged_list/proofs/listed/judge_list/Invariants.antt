use Rattle.judged_list.proofs.listed.judge_list.Given as goal

abbrev pub ghosts-judge_in : goal.ghosts-judge_in
ghosts-judge_in a = record { name = a.blank.name; parts = a.blank.parts }
