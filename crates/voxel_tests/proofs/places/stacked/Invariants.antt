use Rattle.voxel_tests.proofs.places.stacked.Given as goal

abbrev pub ghosts-heaps : goal.ghosts-heaps
ghosts-heaps _ a = record { name = a.blank.name; parts = a.blank.parts }
