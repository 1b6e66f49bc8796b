use Rattle.voxel_tests.proofs.planes.three_to_a_row.Given as goal

abbrev pub ghosts-small : goal.ghosts-small
ghosts-small _ a = record { name = a.blank.name; parts = a.blank.parts }
