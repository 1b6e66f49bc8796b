-- The effect of the calls on a handle, and their results.
use Rattle.std.specs.Prelude.{◌≡◌, ℕ, ◌≤◌, ◌<◌, ◌⊎◌, Bool, true, false, List, [], ◌++◌, length, map, drop, Option, Some, None, Result, Ok, Err}
use Rattle.vox_geom.specs.declared.coordinate.Coord.{Coord}
use Rattle.vox_geom.specs.Space.{IsInSpace}
use Rattle.nano_spec.specs.declared.commands.Command.{Command}
use Rattle.nano_spec.specs.declared.system.Harmonics.{Harmonics}
use Rattle.nano_spec.specs.declared.system.Harmonics.TheVariants.{Low, High}
use Rattle.nano_spec.specs.declared.system.Profile.{Profile}
use Rattle.nano_spec.specs.Cutting.{Cutting}
use Rattle.nano_spec.specs.Matrix.{empty, full_count, is_full}
use Rattle.nano_spec.specs.Model.{written}
use Rattle.nano_spec.specs.Profile.{full_profile, light_profile}
use Rattle.model_file.specs.declared.fault.ModelFault.{ModelFault}
use Rattle.model_file.specs.declared.fault.ModelFault.TheVariants as model_fault
use Rattle.trace_codec.specs.declared.fault.TraceFault.TheVariants as trace_fault
use Rattle.trace_codec.specs.declared.fault.TraceRefusal.TheVariants.{Bad, Cut}
use Rattle.trace_codec.specs.Whole.{Decodes}
use Rattle.kept_machine.specs.declared.fault.NoLevel.{NoLevel}
use Rattle.kept_machine.specs.declared.fault.NoLevel.TheVariants as no_level
use Rattle.kept_machine.specs.declared.fault.NoStep.TheVariants as no_step
use Rattle.kept_machine.specs.Calls.{Opens, OpensFile, Undoes, TellsLevel, Tries}
use Rattle.kept_machine.specs.Kept.{Kept}
use Rattle.machine_c.specs.declared.status.TheConstants.{DONE, BROKEN, ARGUMENT, MODEL, COMMANDS, MEMORY, TOO_SMALL, NO_MACHINE, ENDED, COUNT, LONG, NO_NOTE, OUTSIDE, NO_LEVEL}
use Rattle.machine_c.specs.declared.stepping.StepAnswer.{StepAnswer}
use Rattle.machine_c.specs.declared.stepping.StepAnswer.TheVariants.{Made, Refused, Unread}
use Rattle.machine_c.specs.declared.reports.BotReport.{BotReport}
use Rattle.machine_c.specs.declared.reports.BrokenReport.{BrokenReport}
use Rattle.machine_c.specs.declared.reports.MachineReport.{MachineReport}
use Rattle.machine_c.specs.declared.reports.ModelReport.{ModelReport}
use Rattle.machine_c.specs.declared.reports.StepReport.{StepReport}
use Rattle.machine_c.specs.Told.{bot_told, broken_told, fault_told, none_broken, number_refusal}

-- ---- starts

-- the light profile, or that of the contest
abbrev pub profile_by : Bool → Profile
profile_by true = light_profile
profile_by false = full_profile

-- the status of a refused start
abbrev pub status_of_start : ModelFault → ℕ
status_of_start (model_fault.Refused refusal) = MODEL
status_of_start model_fault.Memory = MEMORY

-- a start puts its machine into the handle, or leaves the handle as it was
abbrev pub Starts : Option Kept → Option Kept → ℕ → Result Kept ModelFault → Type 0
Starts old new status (Ok k) = (new ≡ Some k) × (status ≡ DONE)
Starts old new status (Err fault) = (new ≡ old) × (status ≡ status_of_start fault)

-- the refusal, if there is one
abbrev pub refusal_by : Result Kept ModelFault → ModelReport
refusal_by (Ok k) = number_refusal 0 0 0
refusal_by (Err fault) = fault_told fault

-- a machine starts over the model that the bytes hold, unless `notes` is above the maximum
abbrev pub IsStarted : List ℕ → Bool → ℕ → Option Kept → Option Kept → ModelReport → ℕ → Type 0
IsStarted bytes light notes old new told status =
    ((4096 < notes) × (new ≡ old) × (told ≡ number_refusal 0 0 0) × (status ≡ ARGUMENT))
    ⊎ ((notes ≤ 4096)
    × (answer : Result Kept ModelFault) × OpensFile bytes (profile_by light) notes answer
    × Starts old new status answer × (told ≡ refusal_by answer))

-- a machine starts over the empty model, unless `notes` is above the maximum, or there is no such model
abbrev pub IsStartedEmpty : ℕ → Bool → ℕ → Option Kept → Option Kept → ℕ → Type 0
IsStartedEmpty r light notes old new status =
    (((4096 < notes) ⊎ (r ≡ 0) ⊎ (400 < r)) × (new ≡ old) × (status ≡ ARGUMENT)) ⊎ ((notes ≤ 4096) × (1 ≤ r) × (r ≤ 400)
    × (answer : Result Kept ModelFault) × Opens (empty r) (profile_by light) notes answer
    × Starts old new status answer)

-- a copy has the machine's state, and can undo no step
abbrev pub IsCopied : Option Kept → Option Kept → Option Kept → ℕ → Type 0
IsCopied None before after status = (after ≡ before) × (status ≡ NO_MACHINE)
IsCopied (Some k) before after status =
    ((after ≡ Some (record k { past = [] })) × (status ≡ DONE)) ⊎ ((after ≡ before) × (status ≡ MEMORY))

-- ---- steps

-- commands make a step or none
abbrev pub StepComesTo : Kept → List Command → Kept → StepAnswer → Type 0
StepComesTo old commands new (Made made) = Tries old commands new (Ok made)
StepComesTo old commands new (Refused fault) = Tries old commands new (Err fault)
StepComesTo old commands new (Unread fault) = ⊥

-- the bytes spell commands that make a step, or commands that make none, or they are no commands
abbrev pub ComesTo : Kept → List ℕ → Kept → StepAnswer → Type 0
ComesTo old bytes new (Made made) =
    (commands : List Command) × Cutting bytes commands × Tries old commands new (Ok made)
ComesTo old bytes new (Refused fault) =
    (commands : List Command) × Cutting bytes commands × Tries old commands new (Err fault)
ComesTo old bytes new (Unread fault) = (new ≡ old) × Decodes bytes (Err fault)

-- the status of a step
abbrev pub status_of_step : StepAnswer → ℕ
status_of_step (Made made) = DONE
status_of_step (Refused (no_step.Broken b)) = BROKEN
status_of_step (Refused no_step.Ended) = ENDED
status_of_step (Refused no_step.Count) = COUNT
status_of_step (Refused no_step.Long) = LONG
status_of_step (Refused no_step.Memory) = MEMORY
status_of_step (Unread (trace_fault.Refused refusal)) = COMMANDS
status_of_step (Unread trace_fault.Memory) = MEMORY

-- the rule that a step breaks
abbrev pub rule_told : StepAnswer → BrokenReport
rule_told (Refused (no_step.Broken b)) = broken_told b
rule_told _ = none_broken

-- the first byte of the bad or cut command
abbrev pub offset_by : StepAnswer → ℕ
offset_by (Unread (trace_fault.Refused (Bad offset))) = offset
offset_by (Unread (trace_fault.Refused (Cut offset))) = offset
offset_by _ = 0

-- the number of voxels that a step changes
abbrev pub changed_by : StepAnswer → ℕ
changed_by (Made made) = made.changed
changed_by _ = 0

-- the number of the harmonics
abbrev pub high_of : Harmonics → ℕ
high_of Low = 0
high_of High = 1

-- the machine after a step, and the reason for a refusal
abbrev pub step_told : Kept → StepAnswer → StepReport
step_told k answer =
    record {
      energy = k.state.energy;
      offset = offset_by answer;
      steps = k.steps;
      active = length k.state.bots;
      broken = rule_told answer;
      high = high_of k.state.harmonics;
      changed = changed_by answer;
    }

-- a step of the bytes
abbrev pub IsStepped : Option Kept → List ℕ → Option Kept → StepReport → StepReport → ℕ → Type 0
IsStepped None bytes new before after status = (new ≡ None) × (after ≡ before) × (status ≡ NO_MACHINE)
IsStepped (Some old) bytes new before after status =
    (k : Kept) × (new ≡ Some k) × (answer : StepAnswer) × ComesTo old bytes k answer
    × (after ≡ step_told k answer) × (status ≡ status_of_step answer)

-- the status of an undo
abbrev pub status_of_undo : Bool → ℕ
status_of_undo true = DONE
status_of_undo false = NO_NOTE

-- the last step is undone
abbrev pub IsUndone : Option Kept → Option Kept → ℕ → Type 0
IsUndone None new status = (new ≡ None) × (status ≡ NO_MACHINE)
IsUndone (Some old) new status =
    (k : Kept) × (new ≡ Some k) × (answer : Bool) × Undoes old k answer × (status ≡ status_of_undo answer)

-- ---- the results of calls

-- the machine's state in numbers
abbrev pub machine_told : Kept → MachineReport
machine_told k =
    record {
      energy = k.state.energy;
      steps = k.steps;
      active = length k.state.bots;
      resolution = k.state.matrix.resolution;
      high = high_of k.state.harmonics;
      noted = length k.past;
    }

abbrev pub IsMachineTold : Option Kept → MachineReport → MachineReport → ℕ → Type 0
IsMachineTold None before after status = (after ≡ before) × (status ≡ NO_MACHINE)
IsMachineTold (Some k) before after status = (after ≡ machine_told k) × (status ≡ DONE)

-- all elements go to the front of the buffer, or only the size is returned if the buffer is too small
abbrev pub GivesAll : {X : Type 0} → List X → List X → List X → ℕ → ℕ → Type 0
GivesAll given before after count status =
    (count ≡ length given)
    × (((length given ≤ length before) × (after ≡ given ++ drop (length given) before) × (status ≡ DONE))
    ⊎ ((length before < length given) × (after ≡ before) × (status ≡ TOO_SMALL)))

-- the buffer is unchanged, and the count is 0
abbrev pub GivesNothing : {X : Type 0} → List X → List X → ℕ → Type 0
GivesNothing before after count = (after ≡ before) × (count ≡ 0)

-- the active bots, in rising order of their bids
abbrev pub AreBotsTold : Option Kept → List BotReport → List BotReport → ℕ → ℕ → Type 0
AreBotsTold None before after count status = GivesNothing before after count × (status ≡ NO_MACHINE)
AreBotsTold (Some k) before after count status =
    GivesAll (map bot_told k.state.bots) before after count status

-- whether a voxel is full, 1 or 0
abbrev pub bit_of : Bool → ℕ
bit_of true = 1
bit_of false = 0

abbrev pub IsFullTold : Option Kept → Coord → ℕ → ℕ → ℕ → Type 0
IsFullTold None c before after status = (after ≡ before) × (status ≡ NO_MACHINE)
IsFullTold (Some k) c before after status =
    (IsInSpace k.state.matrix.resolution c × (after ≡ bit_of (is_full k.state.matrix c)) × (status ≡ DONE))
    ⊎ ((IsInSpace k.state.matrix.resolution c → ⊥) × (after ≡ before) × (status ≡ OUTSIDE))

-- the status of a level, and the level if there is one
abbrev pub status_of_level : Result (Option ℕ) NoLevel → ℕ
status_of_level (Ok (Some n)) = DONE
status_of_level (Ok None) = NO_LEVEL
status_of_level (Err no_level.Outside) = OUTSIDE
status_of_level (Err no_level.Memory) = MEMORY

abbrev pub level_by : ℕ → Result (Option ℕ) NoLevel → ℕ
level_by before (Ok (Some n)) = n
level_by before _ = before

abbrev pub IsLevelTold : Option Kept → Coord → ℕ → ℕ → ℕ → Type 0
IsLevelTold None c before after status = (after ≡ before) × (status ≡ NO_MACHINE)
IsLevelTold (Some k) c before after status =
    (answer : Result (Option ℕ) NoLevel) × TellsLevel k.state.matrix c answer
    × (after ≡ level_by before answer) × (status ≡ status_of_level answer)

-- the number of full voxels
abbrev pub IsCounted : Option Kept → ℕ → ℕ → ℕ → Type 0
IsCounted None before after status = (after ≡ before) × (status ≡ NO_MACHINE)
IsCounted (Some k) before after status = (after ≡ full_count k.state.matrix) × (status ≡ DONE)

-- the matrix as the bytes of a model
abbrev pub IsModelGiven : Option Kept → List ℕ → List ℕ → ℕ → ℕ → Type 0
IsModelGiven None before after size status = GivesNothing before after size × (status ≡ NO_MACHINE)
IsModelGiven (Some k) before after size status =
    GivesAll (written k.state.matrix) before after size status
    ⊎ (GivesNothing before after size × (status ≡ MEMORY))
