-- The groups of a step, begun one after another.
use Rattle.std.specs.Prelude.{◌≡◌, ℕ, List, [], ◌∷◌}
use Rattle.nano_spec.specs.declared.commands.Command.{Command}
use Rattle.step_debugger.specs.Session.{AnswersLine, Group, DebugReport, Session}

-- the lines that begin the groups of these leaders, one after another, lead from one session to another
abbrev pub BeginEach : List Command → List ℕ → Session → Session → Type 0
BeginEach commands [] s t = t ≡ s
BeginEach commands (bid ∷ bids) s t =
    (u : Session) × (report : DebugReport) × AnswersLine commands (Group bid) s u report × BeginEach commands bids u t
