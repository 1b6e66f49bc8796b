use Rattle.step_tests.proofs.machine.a_ring_hangs_on_its_other_post_or_floats.Given as goal

abbrev pub ghosts-rings : goal.ghosts-rings
ghosts-rings _ a = record { name = a.blank.name; parts = a.blank.parts }
