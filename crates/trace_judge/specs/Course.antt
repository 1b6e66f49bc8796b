-- The state of a runner, and the effect of one more command.
use Rattle.std.specs.Prelude.{◌≡◌, ◌≢◌, ℕ, ◌+◌, ◌<◌, ◌≤◌, Bool, true, false, List, [], ◌∷◌, ◌++◌, length, count_by, Option, None, Some, Result, Ok}
use Rattle.nano_spec.specs.declared.commands.Command.{Command}
use Rattle.nano_spec.specs.Matrix.{Matrix}
use Rattle.nano_spec.specs.State.{State}
use Rattle.run_progress.specs.Progress as progress
use Rattle.run_progress.specs.Progress.{Progress, Pushes}
use Rattle.step_machine.specs.declared.machine.StepFault.{StepFault}
use Rattle.step_machine.specs.declared.machine.StepOk.{StepOk}
use Rattle.step_machine.specs.Edits.{is_edit}
use Rattle.step_machine.specs.Situation.{Situation, searched_for}
use Rattle.step_machine.specs.Stepped.{answer_of}
use Rattle.trace_judge.specs.declared.runner.Mark.{Mark}
use Rattle.trace_judge.specs.declared.runner.Mark.TheVariants as mark
use Rattle.trace_judge.specs.declared.taking.Taken.{Taken}
use Rattle.trace_judge.specs.declared.taking.Taken.TheVariants as taken

-- the progress, and whether the runner is poisoned
pub record Course : Type 0 where
  pub progress : Progress
  pub spent : Bool

-- the mark of a progress
abbrev pub mark_by : Mark → progress.Mark
mark_by mark.Running = progress.Running
mark_by (mark.Refused broken) = progress.Refused broken
mark_by mark.Halted = progress.Halted
mark_by mark.Followed = progress.Followed

-- a runner is poisoned if its machine is and steps are still to be made
abbrev pub spent_by : Bool → Mark → Bool
spent_by spent mark.Running = spent
spent_by spent _ = false

-- the view of a machine, of the pending commands, and of a mark
abbrev pub course_of : Situation → List Command → Mark → Course
course_of machine pending m = record {
  progress = record { state = machine.state; steps = machine.steps; pending = pending; mark = mark_by m };
  spent = spent_by machine.spent m;
}

-- while steps are made, some bot has no command yet
abbrev pub IsUnderway : Situation → List Command → Mark → Type 0
IsUnderway machine pending mark.Running = machine.spent ≡ false → length pending < length machine.state.bots
IsUnderway machine pending _ = Unit {0}

-- steps are made no more, and one more command came
pub record IsAfterEnd (old new : Mark) : Type 0 where
  pub pushes : (p : Progress) (command : Command) → p.mark ≡ mark_by old
      → Pushes p command (record p { mark = mark_by new })
  pub ended : new ≡ mark.Running → ⊥

-- the answer to the step that one more command makes, in this state then or by this fault, if it makes one
abbrev pub answer_to : Taken → State → StepFault → Option (Result StepOk StepFault)
answer_to taken.Waits s fault = None
answer_to taken.Made s fault = Some (answer_of true s fault)
answer_to taken.Halted s fault = Some (Ok (record { energy = s.energy; halted = true }))
answer_to taken.Refused s fault = Some (answer_of false s fault)

-- one more command makes a step, in which some command fills or voids
pub record MakesEdits (p : Progress) (command : Command) : Type 0 where
  pub running : p.mark ≡ progress.Running
  pub full : length p.pending + 1 ≡ length p.state.bots
  pub edits : 1 ≤ count_by is_edit (p.pending ++ command ∷ [])

-- one more command makes no step
abbrev pub MakesNoStep : Progress → Type 0
MakesNoStep p = p.mark ≡ progress.Running → length p.pending + 1 ≢ length p.state.bots

-- while steps are made, some bot has no command yet: so a trace that ends then ends within a step
abbrev pub LacksCommands : Progress → Type 0
LacksCommands p = p.mark ≡ progress.Running → length p.pending < length p.state.bots

-- the number of voxels searched beyond the work, by the mark after a step in this matrix
abbrev pub searched_by : progress.Mark → Matrix → ℕ
searched_by (progress.Refused b) m = searched_for b.rule m
searched_by _ m = 0
