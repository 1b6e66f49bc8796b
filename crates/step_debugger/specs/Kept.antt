-- The invariant of a debugger.
use Rattle.std.specs.Prelude.{◌≡◌, ℕ, ◌+◌, ◌<◌, ◌≤◌, false, List, [], ◌∷◌, ◌++◌, length, None, All, IsPermutation}
use Rattle.vox_geom.specs.Space.{IsInSpace}
use Rattle.circular_buffer.specs.Buffer.{Buffer}
use Rattle.nano_spec.specs.declared.commands.Command.{Command}
use Rattle.nano_spec.specs.declared.system.Bot.{Bot}
use Rattle.nano_spec.specs.Rules.{broken}
use Rattle.nano_spec.specs.State.{IsWellFormed}
use Rattle.step_machine.specs.Situation.{Situation}
use Rattle.step_machine.specs.Undoing.{MayUndo}
use Rattle.step_machine.specs.declared.undo.Undo.{Undo}
use Rattle.system_state.specs.Turns.{bots_after_some}
use Rattle.step_debugger.specs.Session.{SessionPoint, most_past, next_commands, next_leaders}
use Rattle.step_debugger.specs.Debugging.{earliest, point_of}

-- the step of the note led to the point, and can be undone
pub record LeadsTo (p : SessionPoint) (undo : Undo) : Type 0 where
  pub may : MayUndo p.state undo
  pub counted : undo.steps + 1 ≡ p.steps
  pub some : 1 ≤ length undo.crew
  pub taken : undo.steps + length undo.crew ≤ p.taken

-- the steps of the notes, one after another, led to the point
abbrev pub LeadTo : SessionPoint → List Undo → Type 0
LeadTo p [] = Unit {0}
LeadTo p (undo ∷ notes) = LeadsTo (earliest p notes) undo × LeadTo p notes

-- the groups of these leaders of the next step are begun, and those of the others remain; the bots are those after the begun
-- groups
pub record AreBegun (commands : List Command) (p : SessionPoint) (begun left : List ℕ) (bots : List Bot) : Type 0 where
  pub keeps : broken p.state (next_commands commands p) (p.steps + 1) ≡ None
  pub leaders : IsPermutation (next_leaders commands p) (begun ++ left)
  pub bots_are : bots ≡ bots_after_some p.state (next_commands commands p) begun

-- nothing is begun, or the begun groups satisfy the invariant
abbrev pub Begin : List Command → SessionPoint → List ℕ → List ℕ → List Bot → Type 0
Begin commands p [] left bots = bots ≡ p.state.bots
Begin commands p (bid ∷ begun) left bots = AreBegun commands p (bid ∷ begun) left bots

-- the parts fit together, until allocation fails
pub record Fit (p : SessionPoint) (notes : List Undo) (commands : List Command) (begun left : List ℕ) (bots : List Bot)
    : Type 0 where
  pub well_formed : IsWellFormed p.state
  -- each step takes some commands
  pub counted : p.steps ≤ p.taken
  pub taken : p.taken ≤ length commands
  pub notes_lead : LeadTo p notes
  pub begin : Begin commands p begun left bots
  -- the bots after the begun groups are in space
  pub within : All (λ b. IsInSpace p.state.matrix.resolution b.pos) bots

-- the parts of a debugger
pub record IsKept (machine : Situation) (notes : Buffer Undo) (commands : List Command) (taken : ℕ)
    (begun left : List ℕ) (bots : List Bot) : Type 0 where
  pub few : length commands < 1073741824
  pub capacity : notes.capacity ≡ most_past
  pub fit : machine.spent ≡ false → Fit (point_of machine taken) notes.items commands begun left bots
