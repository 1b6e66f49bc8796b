use Rattle.step_tests.proofs.debugger.a_trace_is_walked_forwards_and_backwards.Given as goal

abbrev pub ghosts-walk : goal.ghosts-walk
ghosts-walk _ a = record { name = a.blank.name; parts = a.blank.parts }
