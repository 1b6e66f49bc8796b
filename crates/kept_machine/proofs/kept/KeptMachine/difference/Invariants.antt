use Rattle.kept_machine.proofs.kept.KeptMachine.difference.Given as goal

abbrev pub ghosts-least_difference : goal.ghosts-least_difference
ghosts-least_difference a = record { name = a.blank.name; parts = a.blank.parts }
