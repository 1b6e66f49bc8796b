use Rattle.step_tests.proofs.rules.one_bot_breaks_rules.Given as goal

abbrev pub ghosts-of_one : goal.ghosts-of_one
ghosts-of_one _ a = record { name = a.blank.name; parts = a.blank.parts }
