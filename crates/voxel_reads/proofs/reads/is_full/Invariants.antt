use Rattle.voxel_reads.proofs.reads.is_full.Given as goal

abbrev pub ghosts-is_full_in : goal.ghosts-is_full_in
ghosts-is_full_in a = record { name = a.blank.name; parts = a.blank.parts }
