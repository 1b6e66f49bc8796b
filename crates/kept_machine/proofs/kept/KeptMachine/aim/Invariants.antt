use Rattle.kept_machine.proofs.kept.KeptMachine.aim.Given as goal

abbrev pub ghosts-count_differences : goal.ghosts-count_differences
ghosts-count_differences a = record { name = a.blank.name; parts = a.blank.parts }
