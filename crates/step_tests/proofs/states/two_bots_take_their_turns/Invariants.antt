use Rattle.step_tests.proofs.states.two_bots_take_their_turns.Given as goal

abbrev pub ghosts-of_two : goal.ghosts-of_two
ghosts-of_two _ a = record { name = a.blank.name; parts = a.blank.parts }
