use Rattle.kept_machine.proofs.kept.KeptMachine.undo.Given as goal

abbrev pub ghosts-undo_and_shorten : goal.ghosts-undo_and_shorten
ghosts-undo_and_shorten a = record { name = a.blank.name; parts = a.blank.parts }
