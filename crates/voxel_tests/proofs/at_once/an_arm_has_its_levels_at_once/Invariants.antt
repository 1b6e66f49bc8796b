use Rattle.voxel_tests.proofs.at_once.an_arm_has_its_levels_at_once.Given as goal

abbrev pub ghosts-arm_at_once : goal.ghosts-arm_at_once
ghosts-arm_at_once _ a = record { name = a.blank.name; parts = a.blank.parts }
