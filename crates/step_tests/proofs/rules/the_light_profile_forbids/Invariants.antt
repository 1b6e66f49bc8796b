use Rattle.step_tests.proofs.rules.the_light_profile_forbids.Given as goal

abbrev pub ghosts-of_light : goal.ghosts-of_light
ghosts-of_light _ a = record { name = a.blank.name; parts = a.blank.parts }
