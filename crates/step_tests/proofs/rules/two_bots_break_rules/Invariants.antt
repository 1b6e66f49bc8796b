use Rattle.step_tests.proofs.rules.two_bots_break_rules.Given as goal

abbrev pub ghosts-of_two : goal.ghosts-of_two
ghosts-of_two _ a = record { name = a.blank.name; parts = a.blank.parts }
