-- Answers and effects of the calls of a kept machine.
use Rattle.std.specs.Prelude.{◌≡◌, ◌≢◌, ℕ, ◌+◌, ◌≤◌, ◌⊎◌, Bool, true, false, List, [], ◌∷◌, ◌++◌, length, count_by, Option, Some, Result, Ok, Err, ⊤}
use Rattle.circular_buffer.specs.Buffer.{keep_last}
use Rattle.vox_geom.specs.declared.coordinate.Coord.{Coord}
use Rattle.vox_geom.specs.Space.{IsInSpace}
use Rattle.nano_spec.specs.declared.commands.Command.{Command}
use Rattle.nano_spec.specs.declared.system.Profile.{Profile}
use Rattle.nano_spec.specs.Legal.{IsLegal}
use Rattle.nano_spec.specs.Level.{Level}
use Rattle.nano_spec.specs.Matrix.{Matrix, all_of, differ_at}
use Rattle.nano_spec.specs.Model.{model}
use Rattle.nano_spec.specs.Next.{Breaks, Goes, Next}
use Rattle.nano_spec.specs.State.{State}
use Rattle.model_file.specs.declared.fault.ModelFault.{ModelFault}
use Rattle.model_file.specs.Fault.{Judges, ReadsModel}
use Rattle.step_machine.specs.declared.machine.StepFault.{StepFault}
use Rattle.step_machine.specs.declared.machine.StepFault.TheVariants as fault
use Rattle.kept_machine.specs.declared.done.StepDone.{StepDone}
use Rattle.kept_machine.specs.declared.fault.NoLevel.{NoLevel}
use Rattle.kept_machine.specs.declared.fault.NoLevel.TheVariants as no_level
use Rattle.kept_machine.specs.declared.fault.NoStep.{NoStep}
use Rattle.kept_machine.specs.declared.fault.NoStep.TheVariants as no_step
use Rattle.kept_machine.specs.Kept.{Kept, kept_opening, trace_with, present, trace_without}

-- a machine starts over a legal source, or the source is refused as the definition refuses it
abbrev pub Opens : Matrix → Profile → ℕ → Result Kept ModelFault → Type 0
Opens source profile room (Ok k) = IsLegal source × (k ≡ kept_opening source profile room)
Opens source profile room (Err fault) = Judges source (Err fault)

-- the same over the model that bytes hold, if they hold one
abbrev pub OpensFile : List ℕ → Profile → ℕ → Result Kept ModelFault → Type 0
OpensFile bytes profile room answer =
    ((m : Matrix) × (model bytes ≡ Ok m) × Opens m profile room answer)
    ⊎ ((fault : ModelFault) × (answer ≡ Err fault) × ReadsModel (model bytes) (Err fault))

-- the number of coordinates at which two matrices of one resolution differ
abbrev pub difference_count : Matrix → Matrix → ℕ
difference_count m target = count_by (differ_at m target) (all_of m)

-- the outcome of a step from one state to another: the energy so far, the harmonics after it, the number of active bots, and
-- the number of voxels that became full or void
pub record Tells (old new : State) (made : StepDone) : Type 0 where
  pub energy : made.energy ≡ new.energy
  pub harmonics : made.harmonics ≡ new.harmonics
  pub active : made.active ≡ length new.bots
  pub changed : made.changed ≡ difference_count old.matrix new.matrix

-- a step was made of one command for each bot: it leads to the definition's state, and can be undone as long as it is among the
-- last that are kept
pub record IsMade (old : Kept) (commands : List Command) (new : Kept) (made : StepDone) : Type 0 where
  pub some : 1 ≤ length old.state.bots
  pub each : length commands ≡ length old.state.bots
  pub goes : Next old.state commands (old.steps + 1) (Goes new.state)
  pub counted : new.steps ≡ old.steps + 1
  pub past : new.past ≡ keep_last old.room (old.past ++ present old ∷ [])
  pub room : new.room ≡ old.room
  -- its commands go to the end of the trace
  pub trace : new.trace ≡ trace_with old.trace commands
  pub target : new.target ≡ old.target
  pub tells : Tells old.state new.state made

-- answer and effect of a step: one that is not made leaves all as it was
abbrev pub Tries : Kept → List Command → Kept → Result StepDone NoStep → Type 0
Tries old commands new (Ok made) = IsMade old commands new made
Tries old commands new (Err (no_step.Broken b)) =
    (new ≡ old) × (length commands ≡ length old.state.bots) × Next old.state commands (old.steps + 1) (Breaks b)
Tries old commands new (Err no_step.Ended) = (new ≡ old) × (old.state.bots ≡ [])
Tries old commands new (Err no_step.Count) =
    (new ≡ old) × (1 ≤ length old.state.bots) × (length commands ≢ length old.state.bots)
Tries old commands new (Err no_step.Long) =
    (new ≡ old) × (1 ≤ length old.state.bots) × (length commands ≡ length old.state.bots) × (1073741824 ≤ old.steps)
Tries old commands new (Err no_step.Memory) = new ≡ old

-- the answer that a step would have: that of the made step, whatever machine it would leave
abbrev pub WouldAnswer : Kept → List Command → Result StepDone NoStep → Type 0
WouldAnswer k commands answer = (next : Kept) × Tries k commands next answer

-- the error if the machine of the system does not make a step
abbrev pub no_step_of : StepFault → NoStep
no_step_of (fault.Broken b) = no_step.Broken b
no_step_of fault.Memory = no_step.Memory
no_step_of fault.Spent = no_step.Memory

-- the last step is undone: the machine is as it was before it, the steps before can be undone next, and the commands of the
-- bots that are active again are no longer in the trace
pub record IsTakenBack (old new : Kept) : Type 0 where
  pub past : old.past ≡ new.past ++ present new ∷ []
  pub room : new.room ≡ old.room
  pub trace : new.trace ≡ trace_without old.trace (length new.state.bots)
  pub target : new.target ≡ old.target

-- answer and effect of an undo: it is made whenever a step can be undone
abbrev pub Undoes : Kept → Kept → Bool → Type 0
Undoes old new true = IsTakenBack old new
Undoes old new false = (new ≡ old) × (old.past ≡ [])

-- the machine keeps the commands from here on, unless steps were made before
abbrev pub BeginsTrace : Kept → Kept → Bool → Type 0
BeginsTrace old new true = (old.steps ≡ 0) × (new ≡ record old { trace = Some [] })
BeginsTrace old new false = (1 ≤ old.steps) × (new ≡ old)

-- the level by the definition, or that the coordinate is out of space
abbrev pub TellsLevel : Matrix → Coord → Result (Option ℕ) NoLevel → Type 0
TellsLevel m c (Ok level) = IsInSpace m.resolution c × Level m c level
TellsLevel m c (Err no_level.Outside) = IsInSpace m.resolution c → ⊥
TellsLevel m c (Err no_level.Memory) = ⊤
