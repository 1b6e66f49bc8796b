use Rattle.step_tests.proofs.machine.a_step_that_breaks_grounding_spends_the_machine.Given as goal

abbrev pub ghosts-posts : goal.ghosts-posts
ghosts-posts _ a = record { name = a.blank.name; parts = a.blank.parts }
