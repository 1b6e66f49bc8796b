use Rattle.planner_tests.proofs.tapes.two_bots_go_out_and_come_home.Given as goal

abbrev pub ghosts-of_two : goal.ghosts-of_two
ghosts-of_two _ a = record { name = a.blank.name; parts = a.blank.parts }
