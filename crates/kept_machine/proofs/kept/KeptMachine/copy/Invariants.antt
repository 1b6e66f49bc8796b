use Rattle.kept_machine.proofs.kept.KeptMachine.copy.Given as goal

abbrev pub ghosts-copy_of : goal.ghosts-copy_of
ghosts-copy_of a = record { name = a.blank.name; parts = a.blank.parts }
