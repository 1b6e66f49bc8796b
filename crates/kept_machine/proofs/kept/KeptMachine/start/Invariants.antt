use Rattle.kept_machine.proofs.kept.KeptMachine.start.Given as goal

abbrev pub ghosts-start_over : goal.ghosts-start_over
ghosts-start_over a = record { name = a.blank.name; parts = a.blank.parts }
