-- The touches of a run, bounded by its work.
use Rattle.std.specs.Prelude.{◌≡◌, ℕ, ◌+◌, ◌*◌, ◌≤◌, List, [], ◌∷◌, ◌++◌}
use Rattle.nano_spec.specs.declared.commands.Command.{Command}
use Rattle.nano_spec.specs.declared.system.Profile.{Profile}
use Rattle.nano_spec.specs.Matrix.{Matrix}
use Rattle.nano_spec.specs.Model.{volume}
use Rattle.nano_spec.specs.Work.{Work, WorkFrom}
use Rattle.run_progress.specs.Progress as progress
use Rattle.run_progress.specs.Progress.{Progress}
use Rattle.step_machine.specs.Stepped.{IsWithinWork}
use Rattle.trace_judge.specs.Course.{MakesNoStep, searched_by}

-- the touches from began to ended are within the work of the run: at most a hundred for each unit of it and for each
-- voxel
abbrev pub IsWithinWorkOfRun : Matrix → List Command → Profile → ℕ → ℕ → Type 0
IsWithinWorkOfRun source commands profile began ended =
    (n : ℕ) × Work source commands profile n × (ended ≤ began + 100 * (volume source.resolution + n))

-- one more command: no touch if it makes no step, and otherwise at most a hundred times the work of the step, plus a search for
-- floating voxels if there are any
pub record Touches (p q : Progress) (command : Command) (before after : ℕ) : Type 0 where
  pub untouched : MakesNoStep p → after ≡ before
  pub paid :
      IsWithinWork p.state (p.pending ++ command ∷ []) (p.steps + 1) (before + searched_by q.mark p.state.matrix) after

-- from start to now the touches are paid for by n, the work of a run: while steps are made, the rest of the work pays for the
-- rest of the touches; after that one search of a whole matrix may come on top
abbrev pub LeftAt : progress.Mark → Progress → List Command → ℕ → ℕ → ℕ → ℕ → Type 0
LeftAt progress.Running p rest searched start now n =
    (more : ℕ) × WorkFrom p.state (p.pending ++ rest) p.steps more × (now + 100 * more ≤ start + 100 * n)
LeftAt _ p rest searched start now n = now ≤ start + 100 * n + searched

-- whatever commands follow the taken ones, the touches from start to now are paid for by the work of them all
abbrev pub IsPaid : Matrix → Profile → List Command → Progress → ℕ → ℕ → Type 0
IsPaid source profile commands p start now = (rest : List Command) (n : ℕ) → Work source (commands ++ rest) profile n
    → LeftAt p.mark p rest (volume source.resolution) start now n
