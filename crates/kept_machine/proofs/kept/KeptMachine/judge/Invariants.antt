use Rattle.kept_machine.proofs.kept.KeptMachine.judge.Given as goal

abbrev pub ghosts-judge_step : goal.ghosts-judge_step
ghosts-judge_step a = record { name = a.blank.name; parts = a.blank.parts }
