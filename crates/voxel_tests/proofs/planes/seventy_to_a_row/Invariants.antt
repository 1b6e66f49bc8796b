use Rattle.voxel_tests.proofs.planes.seventy_to_a_row.Given as goal

abbrev pub ghosts-wide : goal.ghosts-wide
ghosts-wide _ a = record { name = a.blank.name; parts = a.blank.parts }
