use Rattle.kept_machine.proofs.kept.KeptMachine.count.Given as goal

abbrev pub ghosts-count_full : goal.ghosts-count_full
ghosts-count_full a = record { name = a.blank.name; parts = a.blank.parts }
