use Rattle.std.proofs.Common.{sym, ◌∙◌, ap, length}
use Rattle.kept_machine.specs.Kept.{Kept, instant_of}
use Rattle.kept_machine.proofs.Notes.{instants_many}
use Rattle.kept_machine.proofs.kept.KeptMachine.steps_noted.Goals as goal

pub returns : goal.returns
returns c = c.len.ensures.len ∙ (sym (instants_many (instant_of c.self.inside.machine) c.self.inside.notes.items) ∙ ap (λ (k : Kept). length k.past) c.self.view_is)
