-- The view of a kept machine in contracts, and its invariant.
use Rattle.std.specs.Prelude.{◌≡◌, ◌≢◌, ℕ, ◌-◌, ◌<◌, ◌≤◌, Bool, cond, List, [], ◌∷◌, ◌++◌, length, take, Option, Some, None, option_map, Result, Ok, Err}
use Rattle.circular_buffer.specs.Buffer.{Buffer}
use Rattle.nano_spec.specs.declared.commands.Command.{Command}
use Rattle.nano_spec.specs.Matrix.{Matrix}
use Rattle.nano_spec.specs.State.{IsWellFormed, State, opening}
use Rattle.nano_spec.specs.declared.system.Profile.{Profile}
use Rattle.step_machine.specs.Situation.{Situation}
use Rattle.step_machine.specs.Undoing.{MayUndo, state_before}
use Rattle.step_machine.specs.declared.undo.Undo.{Undo}
use Rattle.kept_machine.specs.declared.done.StepDone.{StepDone}
use Rattle.kept_machine.specs.declared.fault.NoStep.{NoStep}
use Rattle.kept_machine.specs.declared.fault.NoStep.TheVariants as no_step
use Rattle.kept_machine.specs.declared.trace.Trace.{Trace}

-- a state, and the number of steps made until then
pub record Instant : Type 0 where
  pub state : State
  pub steps : ℕ

-- the state, the number of steps made, the instants before each of the last steps (the last one last), and their maximum; the
-- commands of the steps that were made and not undone, if they are kept; and the target, if there is one
pub record Kept : Type 0 where
  pub state : State
  pub steps : ℕ
  pub past : List Instant
  pub room : ℕ
  pub trace : Option (List Command)
  pub target : Option Matrix

-- the present state and number of steps
abbrev pub present : Kept → Instant
present k = record { state = k.state; steps = k.steps }

-- a machine before its first step
abbrev pub kept_opening : Matrix → Profile → ℕ → Kept
kept_opening source profile room =
    record { state = opening source profile; steps = 0; past = []; room = room; trace = None; target = None }

-- a trace, if it is kept, with more commands at its end
abbrev pub trace_with : Option (List Command) → List Command → Option (List Command)
trace_with trace commands = option_map (λ made. made ++ commands) trace

-- a trace, if it is kept, without its last `count` commands
abbrev pub trace_without : Option (List Command) → ℕ → Option (List Command)
trace_without trace count = option_map (λ made. take (length made - count) made) trace

-- ---- the parts

-- the commands of a trace, if they are kept
abbrev pub trace_of : Trace → Option (List Command)
trace_of t = cond t.is_kept (Some t.commands.items) None

-- a trace after an attempted step
abbrev pub tried : Option (List Command) → List Command → Result StepDone NoStep → Option (List Command)
tried trace commands (Ok ok) = trace_with trace commands
tried trace commands (Err fault) = trace

-- and after an undo, which may have undone a step; `active` bots are active then
abbrev pub undone : Option (List Command) → ℕ → Bool → Option (List Command)
undone trace active is_undone = cond is_undone (trace_without trace active) trace

-- the present instant of a machine of the system, poisoned or not
abbrev pub instant_of : Situation → Instant
instant_of m = record { state = m.state; steps = m.steps }

-- the instant before the step of a note
abbrev pub instant_before : Instant → Undo → Instant
instant_before p undo = record { state = state_before p.state undo; steps = undo.steps }

-- the instant before the steps of all notes, the last of which is that of the last step
abbrev pub first_instant : Instant → List Undo → Instant
first_instant p [] = p
first_instant p (undo ∷ notes) = instant_before (first_instant p notes) undo

-- the instants before each of them
abbrev pub instants_of : Instant → List Undo → List Instant
instants_of p [] = []
instants_of p (undo ∷ notes) = first_instant p (undo ∷ notes) ∷ instants_of p notes

-- the view of a machine, its notes and its trace, without a target
abbrev pub kept_of : Situation → Buffer Undo → Option (List Command) → Kept
kept_of m notes trace =
    record {
      state = m.state;
      steps = m.steps;
      past = instants_of (instant_of m) notes.items;
      room = notes.capacity;
      trace = trace;
      target = None;
    }

-- the steps of the notes can be undone, one after another
abbrev pub CanBeTakenBack : Instant → List Undo → Type 0
CanBeTakenBack p [] = Unit {0}
CanBeTakenBack p (undo ∷ notes) = MayUndo (first_instant p notes).state undo × CanBeTakenBack p notes

-- the invariant of a machine and its notes
pub record IsNoted (m : Situation) (notes : Buffer Undo) : Type 0 where
  pub well_formed : IsWellFormed m.state
  pub back : CanBeTakenBack (instant_of m) notes.items

-- the commands can be judged: some bot is active, each has one, and the machine makes as many steps
pub record CanStep (m : Situation) (commands : List Command) : Type 0 where
  pub some : 1 ≤ length m.state.bots
  pub each : length commands ≡ length m.state.bots
  pub few : m.steps < 1073741824

-- the reason why they cannot
abbrev pub CannotStep : Situation → List Command → NoStep → Type 0
CannotStep m commands (no_step.Broken b) = ⊥
CannotStep m commands no_step.Ended = m.state.bots ≡ []
CannotStep m commands no_step.Count = (1 ≤ length m.state.bots) × (length commands ≢ length m.state.bots)
CannotStep m commands no_step.Long =
    (1 ≤ length m.state.bots) × (length commands ≡ length m.state.bots) × (1073741824 ≤ m.steps)
CannotStep m commands no_step.Memory = ⊥
