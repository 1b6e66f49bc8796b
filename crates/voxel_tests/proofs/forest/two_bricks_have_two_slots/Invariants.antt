use Rattle.voxel_tests.proofs.forest.two_bricks_have_two_slots.Given as goal

abbrev pub ghosts-two_bricks : goal.ghosts-two_bricks
ghosts-two_bricks _ a = record { name = a.blank.name; parts = a.blank.parts }
