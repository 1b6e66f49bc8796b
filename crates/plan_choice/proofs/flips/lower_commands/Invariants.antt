use Rattle.plan_choice.proofs.flips.lower_commands.Given as goal

abbrev pub ghosts-lowered_in : goal.ghosts-lowered_in
ghosts-lowered_in a = record { name = a.blank.name; parts = a.blank.parts }
