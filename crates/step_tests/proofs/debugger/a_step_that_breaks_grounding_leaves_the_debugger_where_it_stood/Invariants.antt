use Rattle.step_tests.proofs.debugger.a_step_that_breaks_grounding_leaves_the_debugger_where_it_stood.Given as goal

abbrev pub ghosts-floating : goal.ghosts-floating
ghosts-floating _ a = record { name = a.blank.name; parts = a.blank.parts }
