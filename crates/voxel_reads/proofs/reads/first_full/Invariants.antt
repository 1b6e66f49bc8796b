use Rattle.voxel_reads.proofs.reads.first_full.Given as goal

abbrev pub ghosts-first_full_in : goal.ghosts-first_full_in
ghosts-first_full_in a = record { name = a.blank.name; parts = a.blank.parts }
