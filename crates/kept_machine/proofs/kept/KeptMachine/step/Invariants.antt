use Rattle.kept_machine.proofs.kept.KeptMachine.step.Given as goal

abbrev pub ghosts-step_and_keep : goal.ghosts-step_and_keep
ghosts-step_and_keep a = record { name = a.blank.name; parts = a.blank.parts }
