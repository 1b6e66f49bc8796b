use Rattle.std.proofs.Common.{◌∙◌, ap}
use Rattle.step_debugger.specs.Session.{Session}
use Rattle.step_debugger.proofs.Restoring.{all_latest, restored_report, restored_session}
use Rattle.step_debugger.proofs.laws.back_restores.Goals as goal

pub returns-clause-point : goal.returns-clause-point
returns-clause-point c commands line s t u n energy ended r h k = ap (λ (x : Session). x.point) (restored_session commands line s t u n energy ended r h k)

pub returns-clause-past : goal.returns-clause-past
returns-clause-past c commands line s t u n energy ended r h k l = ap (λ (x : Session). x.past) (restored_session commands line s t u n energy ended r h k) ∙ all_latest s.past l

pub returns-clause-most : goal.returns-clause-most
returns-clause-most c commands line s t u n energy ended r h k = ap (λ (x : Session). x.past) (restored_session commands line s t u n energy ended r h k)

pub returns-clause-begun : goal.returns-clause-begun
returns-clause-begun c commands line s t u n energy ended r h k = ap (λ (x : Session). x.begun) (restored_session commands line s t u n energy ended r h k)

pub returns-clause-report : goal.returns-clause-report
returns-clause-report c = restored_report
