use Rattle.voxel_tests.proofs.forest.a_ring_hangs_on_its_other_post.Given as goal

abbrev pub ghosts-ring_on_posts : goal.ghosts-ring_on_posts
ghosts-ring_on_posts _ a = record { name = a.blank.name; parts = a.blank.parts }
