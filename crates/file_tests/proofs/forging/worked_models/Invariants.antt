use Rattle.file_tests.proofs.forging.worked_models.Given as goal

abbrev pub ghosts-worked : goal.ghosts-worked
ghosts-worked _ a = record { name = a.blank.name; parts = a.blank.parts }
