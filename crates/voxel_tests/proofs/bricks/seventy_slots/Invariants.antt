use Rattle.voxel_tests.proofs.bricks.seventy_slots.Given as goal

abbrev pub ghosts-reused : goal.ghosts-reused
ghosts-reused _ a = record { name = a.blank.name; parts = a.blank.parts }
