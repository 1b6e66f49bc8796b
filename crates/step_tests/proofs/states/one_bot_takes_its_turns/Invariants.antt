use Rattle.step_tests.proofs.states.one_bot_takes_its_turns.Given as goal

abbrev pub ghosts-of_one : goal.ghosts-of_one
ghosts-of_one _ a = record { name = a.blank.name; parts = a.blank.parts }
