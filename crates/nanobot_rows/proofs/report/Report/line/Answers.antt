use Rattle.nanobot_rows.proofs.report.Report.line.Goals as goal

pub returns-in-Exercised : goal.returns-in-Exercised
returns-in-Exercised c = rw c.in-Exercised.is c.exercised_line.ensures
