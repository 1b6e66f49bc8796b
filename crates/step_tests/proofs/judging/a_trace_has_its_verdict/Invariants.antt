use Rattle.step_tests.proofs.judging.a_trace_has_its_verdict.Given as goal

abbrev pub ghosts-traces : goal.ghosts-traces
ghosts-traces _ a = record { name = a.blank.name; parts = a.blank.parts }
