-- The touches of making or undoing a step.
use Rattle.std.specs.Prelude.{ℕ, ◌+◌, ◌*◌, ◌≤◌, ◌&&◌, List, Result, Err}
use Rattle.nano_spec.specs.declared.commands.Command.{Command}
use Rattle.nano_spec.specs.declared.outcomes.Broken.{Broken}
use Rattle.nano_spec.specs.Matrix.{Matrix, is_full, matrix_where}
use Rattle.nano_spec.specs.Work.{WorkOfStep, changed_count}
use Rattle.step_machine.specs.Restoring.{IsTakenBackAfter}
use Rattle.step_machine.specs.Situation.{searched_for}
use Rattle.step_machine.specs.Undoing.{LevelsThrough, levels_moved}
use Rattle.step_debugger.specs.declared.fault.DebugFault.{DebugFault}
use Rattle.step_debugger.specs.declared.fault.DebugFault.TheVariants as fault
use Rattle.step_debugger.specs.Session.{SessionPoint, next_commands}

-- the touches from began to ended are at most n for each unit of the work of the next step
abbrev pub IsWithinWorkOf : ℕ → List Command → SessionPoint → ℕ → ℕ → Type 0
IsWithinWorkOf most commands p began ended =
    (n : ℕ) × WorkOfStep p.state (next_commands commands p) (p.steps + 1) n × (ended ≤ began + most * n)

-- the touches of a refused next step: it is judged, and then its changes are undone
pub record IsRefusedWithin (most : ℕ) (commands : List Command) (p : SessionPoint) (b : Broken) (began ended : ℕ)
    : Type 0 where
  pub judged : ℕ
  -- those of the judgement: each voxel once more if the step breaks the rule of grounding
  pub within : IsWithinWorkOf most commands p (began + searched_for b.rule p.state.matrix) judged
  -- those of the undo, after that rule alone
  pub back : IsTakenBackAfter b.rule p.state (next_commands commands p) judged ended

-- P holds of the rule that a refused next step breaks
abbrev pub IfRefused : {T : Type 0} → Result T DebugFault → (Broken → Type 0) → Type 0
IfRefused (Err (fault.Broken b)) P = P b
IfRefused _ P = Unit {0}

-- the voxels that are full in both matrices
abbrev pub common : Matrix → Matrix → Matrix
common old new = matrix_where old.resolution (λ c. is_full old c && is_full new c)

-- at most a hundred touches for each voxel that changes, for each voxel whose level changes by voiding, and for each whose
-- level then changes by filling
abbrev pub IsTouchedBack : Matrix → Matrix → ℕ → ℕ → Type 0
IsTouchedBack old new began ended =
    (levels : LevelsThrough old (common old new) new)
    × (ended ≤ began + 100 * (changed_count old new + levels_moved levels))
