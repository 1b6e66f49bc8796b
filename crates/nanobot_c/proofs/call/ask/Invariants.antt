use Rattle.nanobot_c.proofs.call.ask.Given as goal

abbrev pub ghosts-ask_counted : goal.ghosts-ask_counted
ghosts-ask_counted a = record { name = a.blank.name; parts = a.blank.parts }
