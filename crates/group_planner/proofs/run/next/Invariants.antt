use Rattle.group_planner.proofs.run.next.Given as goal

abbrev pub ghosts-next_in : goal.ghosts-next_in
ghosts-next_in a = record { name = a.blank.name; parts = a.blank.parts }
