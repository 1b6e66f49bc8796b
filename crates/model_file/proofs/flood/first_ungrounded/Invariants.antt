use Rattle.model_file.proofs.flood.first_ungrounded.Given as goal

abbrev pub ghosts-first_ungrounded_in : goal.ghosts-first_ungrounded_in
ghosts-first_ungrounded_in a = record { name = a.blank.name; parts = a.blank.parts }
