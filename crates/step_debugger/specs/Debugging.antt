-- The view of a debugger in contracts.
use Rattle.std.specs.Prelude.{ℕ, ◌-◌, Bool, List, [], ◌∷◌, length}
use Rattle.nano_spec.specs.declared.commands.Command.{Command}
use Rattle.step_machine.specs.Situation.{Situation}
use Rattle.step_machine.specs.Undoing.{state_before}
use Rattle.step_machine.specs.declared.undo.Undo.{Undo}
use Rattle.step_debugger.specs.Session.{SessionPoint, Session}

-- the session, the commands of the trace, and whether the debugger is poisoned
pub record Debugging : Type 0 where
  pub session : Session
  pub commands : List Command
  pub spent : Bool

-- the point of a machine after `taken` commands
abbrev pub point_of : Situation → ℕ → SessionPoint
point_of machine taken = record { state = machine.state; steps = machine.steps; taken = taken }

-- the situation of the machine of a point
abbrev pub situation_of : SessionPoint → Bool → Situation
situation_of p spent = record { state = p.state; steps = p.steps; spent = spent }

-- the point before the step of a note: each of its bots took a command
abbrev pub point_before : SessionPoint → Undo → SessionPoint
point_before p undo =
    record { state = state_before p.state undo; steps = undo.steps; taken = p.taken - length undo.crew }

-- the point before the steps of all notes, the last of which is that of the last step
abbrev pub earliest : SessionPoint → List Undo → SessionPoint
earliest p [] = p
earliest p (undo ∷ notes) = point_before (earliest p notes) undo

-- the points before the steps of the notes
abbrev pub points_of : SessionPoint → List Undo → List SessionPoint
points_of p [] = []
points_of p (undo ∷ notes) = earliest p (undo ∷ notes) ∷ points_of p notes

-- the view of the parts of a debugger
abbrev pub debugging_of : Situation → List Undo → List Command → ℕ → List ℕ → Debugging
debugging_of machine notes commands taken begun = record {
  session = record { point = point_of machine taken; past = points_of (point_of machine taken) notes; begun = begun };
  commands = commands;
  spent = machine.spent;
}
