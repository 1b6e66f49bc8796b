use Rattle.step_tests.proofs.block.eight_bots_void_a_block_at_once.Given as goal

abbrev pub ghosts-block : goal.ghosts-block
ghosts-block _ a = record { name = a.blank.name; parts = a.blank.parts }
