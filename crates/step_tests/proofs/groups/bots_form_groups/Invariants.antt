use Rattle.step_tests.proofs.groups.bots_form_groups.Given as goal

abbrev pub ghosts-of_groups : goal.ghosts-of_groups
ghosts-of_groups _ a = record { name = a.blank.name; parts = a.blank.parts }
