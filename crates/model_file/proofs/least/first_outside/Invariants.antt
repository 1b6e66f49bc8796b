use Rattle.model_file.proofs.least.first_outside.Given as goal

abbrev pub ghosts-first_outside_in : goal.ghosts-first_outside_in
ghosts-first_outside_in a = record { name = a.blank.name; parts = a.blank.parts }
