use Rattle.model_file.proofs.files.write_model.Given as goal

abbrev pub ghosts-write_by : goal.ghosts-write_by
ghosts-write_by a = record { name = a.blank.name; parts = a.blank.parts }
