use Rattle.std.proofs.Common.{sym, ◌∙◌, ap, length}
use Rattle.step_debugger.specs.Debugging.{Debugging, point_of}
use Rattle.step_debugger.proofs.Notes.{points_many}
use Rattle.step_debugger.proofs.debugger.Debugger.history.Goals as goal

pub returns-clause-value : goal.returns-clause-value
returns-clause-value c =
    c.len.ensures.len ∙ (sym (points_many (point_of c.self.inside.machine c.self.inside.taken) c.self.inside.history.items) ∙ ap (λ (d : Debugging). length d.session.past) c.self.view_is)
