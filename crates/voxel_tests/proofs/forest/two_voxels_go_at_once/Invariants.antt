use Rattle.voxel_tests.proofs.forest.two_voxels_go_at_once.Given as goal

abbrev pub ghosts-pairs_go : goal.ghosts-pairs_go
ghosts-pairs_go _ a = record { name = a.blank.name; parts = a.blank.parts }
