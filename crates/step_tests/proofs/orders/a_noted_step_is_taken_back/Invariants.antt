use Rattle.step_tests.proofs.orders.a_noted_step_is_taken_back.Given as goal

abbrev pub ghosts-noted : goal.ghosts-noted
ghosts-noted _ a = record { name = a.blank.name; parts = a.blank.parts }
