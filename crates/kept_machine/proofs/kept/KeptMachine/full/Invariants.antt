use Rattle.kept_machine.proofs.kept.KeptMachine.full.Given as goal

abbrev pub ghosts-is_full_at : goal.ghosts-is_full_at
ghosts-is_full_at a = record { name = a.blank.name; parts = a.blank.parts }
