use Rattle.kept_machine.proofs.kept.KeptMachine.level.Given as goal

abbrev pub ghosts-find_level : goal.ghosts-find_level
ghosts-find_level a = record { name = a.blank.name; parts = a.blank.parts }
