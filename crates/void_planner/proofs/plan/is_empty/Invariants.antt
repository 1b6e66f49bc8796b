use Rattle.void_planner.proofs.plan.is_empty.Given as goal

abbrev pub ghosts-is_empty_in : goal.ghosts-is_empty_in
ghosts-is_empty_in a = record { name = a.blank.name; parts = a.blank.parts }
