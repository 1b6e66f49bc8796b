use Rattle.plan_tape.proofs.several.advance.Given as goal

abbrev pub ghosts-advance_in : goal.ghosts-advance_in
ghosts-advance_in a = record { name = a.blank.name; parts = a.blank.parts }
