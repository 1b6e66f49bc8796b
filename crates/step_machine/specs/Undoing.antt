-- A step that is undone.
use Rattle.std.specs.Prelude.{◌≡◌, ◌≢◌, ℕ, ◌+◌, ◌*◌, ◌≤◌, ℤ, List, length, Option, true, false, Result, Ok, Err, IsTrue, IsFalse, All, AllPairs}
use Rattle.vox_geom.specs.declared.coordinate.Coord.{Coord}
use Rattle.vox_geom.specs.Space.{IsInSpace}
use Rattle.nano_spec.specs.declared.commands.Command.{Command}
use Rattle.nano_spec.specs.declared.system.Bot.{Bot}
use Rattle.nano_spec.specs.declared.system.Harmonics.{Harmonics}
use Rattle.nano_spec.specs.declared.system.Profile.{Profile}
use Rattle.nano_spec.specs.Matrix.{Matrix, is_full}
use Rattle.nano_spec.specs.State.{IsWellFormed, State}
use Rattle.nano_spec.specs.Work.{Levels, differing}
use Rattle.system_state.specs.Painting.{with_cells}
use Rattle.step_machine.specs.declared.machine.StepOk.{StepOk}
use Rattle.step_machine.specs.declared.machine.StepFault.{StepFault}
use Rattle.step_machine.specs.declared.undo.Undo.{Undo}
use Rattle.step_machine.specs.Edits.{edits_of}
use Rattle.step_machine.specs.Situation.{IsEnergyBounded}

-- the state of these parts
abbrev pub state_with : Matrix → List Bot → Harmonics → ℤ → Profile → State
state_with matrix bots harmonics energy profile =
    record { matrix = matrix; harmonics = harmonics; bots = bots; energy = energy; profile = profile }

-- a machine can have the state, after `steps` steps
pub record IsMachineState (s : State) (steps : ℕ) : Type 0 where
  pub well_formed : IsWellFormed s
  pub within : All (λ b. IsInSpace s.matrix.resolution b.pos) s.bots
  pub seeds : s.profile.seeds ≤ 39
  pub few : steps ≤ 1073741824
  pub paid : IsEnergyBounded s.energy steps

-- the matrix without the voxels that became full in a step
abbrev pub without_filled : Matrix → List Coord → Matrix
without_filled m filled = with_cells m filled false

-- the matrix before a step: what became full is void, what became void is full, and all other voxels are as they are
abbrev pub matrix_before : Matrix → List Coord → List Coord → Matrix
matrix_before m filled voided = with_cells (without_filled m filled) voided true

-- the state of the note, computed from the state after its step
abbrev pub state_before : State → Undo → State
state_before s undo =
    state_with (matrix_before s.matrix undo.filled.items undo.voided.items) undo.crew undo.harmonics undo.energy
    s.profile

-- the voxels of the note have changed accordingly: they are in space and all differ, those that became full are full, and those
-- that became void are void
pub record HaveChanged (m : Matrix) (undo : Undo) : Type 0 where
  pub filled_within : All (λ c. IsInSpace m.resolution c) undo.filled.items
  pub voided_within : All (λ c. IsInSpace m.resolution c) undo.voided.items
  pub filled_differ : AllPairs ◌≢◌ undo.filled.items
  pub voided_differ : AllPairs ◌≢◌ undo.voided.items
  pub filled : All (λ c. IsTrue (is_full m c)) undo.filled.items
  pub voided : All (λ c. IsFalse (is_full m c)) undo.voided.items

-- the step of the note can be undone in the state: its voxels have changed, and a machine can have the state of the
-- note
pub record MayUndo (s : State) (undo : Undo) : Type 0 where
  pub voxels : HaveChanged s.matrix undo
  pub before : IsMachineState (state_before s undo) undo.steps

-- the note of a step: the state before it, and the voxels that it changes
pub record IsNote (s : State) (commands : List Command) (step : ℕ) (undo : Undo) : Type 0 where
  pub crew : undo.crew ≡ s.bots
  pub harmonics : undo.harmonics ≡ s.harmonics
  pub energy : undo.energy ≡ s.energy
  pub steps : undo.steps + 1 ≡ step
  pub filled : undo.filled.items ≡ edits_of s commands false
  pub voided : undo.voided.items ≡ edits_of s commands true

-- the answer to a step, without its note
abbrev pub without_note : Result (StepOk × Undo) StepFault → Result StepOk StepFault
without_note (Ok made) = Ok made.0
without_note (Err fault) = Err fault

-- the levels of three matrices, each of which follows from the one before it
pub record LevelsThrough (old between new : Matrix) : Type 0 where
  pub first : List (Option ℕ)
  pub middle : List (Option ℕ)
  pub last : List (Option ℕ)
  pub first_are : Levels old first
  pub middle_are : Levels between middle
  pub last_are : Levels new last

-- the number of voxels whose level changes by the first of two changes, and by the second
abbrev pub levels_moved : {old between new : Matrix} → LevelsThrough old between new → ℕ
levels_moved levels = differing levels.first levels.middle + differing levels.middle levels.last

-- an undo takes at most a hundred touches for each voxel of its note, for each voxel whose level changes by voiding, and for
-- each whose level then changes by filling
abbrev pub IsUndoneBy : Matrix → List Coord → List Coord → ℕ → ℕ → Type 0
IsUndoneBy m filled voided began ended =
    (levels : LevelsThrough m (without_filled m filled) (matrix_before m filled voided))
    × (ended ≤ began + 100 * (length filled + length voided + levels_moved levels))
