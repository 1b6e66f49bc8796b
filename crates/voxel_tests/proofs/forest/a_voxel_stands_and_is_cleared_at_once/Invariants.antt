use Rattle.voxel_tests.proofs.forest.a_voxel_stands_and_is_cleared_at_once.Given as goal

abbrev pub ghosts-voxels_at_once : goal.ghosts-voxels_at_once
ghosts-voxels_at_once _ a = record { name = a.blank.name; parts = a.blank.parts }
