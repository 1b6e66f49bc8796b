use Rattle.voxel_tests.proofs.places.by_places.Given as goal

abbrev pub ghosts-placed : goal.ghosts-placed
ghosts-placed _ a = record { name = a.blank.name; parts = a.blank.parts }
