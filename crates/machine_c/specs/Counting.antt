-- The number of voxels of a machine's matrix that differ from a target, counted by a call or kept.
use Rattle.std.specs.Prelude.{◌≡◌, ◌≢◌, ◌⊎◌, ℕ, List, Option, Some, None, Ok, Err}
use Rattle.nano_spec.specs.Matrix.{Matrix}
use Rattle.nano_spec.specs.Model.{model}
use Rattle.model_file.specs.declared.fault.ModelFault.TheVariants as model_fault
use Rattle.model_file.specs.Fault.{ReadsModel}
use Rattle.kept_machine.specs.Calls.{difference_count}
use Rattle.kept_machine.specs.Kept.{Kept}
use Rattle.machine_c.specs.declared.counting.CountAnswer.{CountAnswer}
use Rattle.machine_c.specs.declared.counting.CountAnswer.TheVariants.{Counted, Unlike, Refused}
use Rattle.machine_c.specs.declared.status.TheConstants.{DONE, MEMORY, MODEL, NO_MACHINE, NO_TARGET, RESOLUTION}
use Rattle.machine_c.specs.declared.reports.ModelReport.{ModelReport}
use Rattle.machine_c.specs.Told.{fault_told, number_refusal}

-- the differences of a matrix and the bytes of a target, which need not be legal
abbrev pub Counts : Kept → List ℕ → CountAnswer → Type 0
Counts k bytes (Counted count) =
    (m : Matrix) × (model bytes ≡ Ok m) × (m.resolution ≡ k.state.matrix.resolution)
    × (count ≡ difference_count k.state.matrix m)
Counts k bytes Unlike = (m : Matrix) × (model bytes ≡ Ok m) × (m.resolution ≢ k.state.matrix.resolution)
Counts k bytes (Refused fault) = ReadsModel (model bytes) (Err fault)

-- the status, the number, and the refusal
abbrev pub status_of_count : CountAnswer → ℕ
status_of_count (Counted count) = DONE
status_of_count Unlike = RESOLUTION
status_of_count (Refused model_fault.Memory) = MEMORY
status_of_count (Refused _) = MODEL

abbrev pub differences_by : CountAnswer → ℕ
differences_by (Counted count) = count
differences_by _ = 0

abbrev pub refusal_of_count : CountAnswer → ModelReport
refusal_of_count (Refused fault) = fault_told fault
refusal_of_count _ = number_refusal 0 0 0

-- the call returns the number of coordinates at which the matrix of a machine and a target differ
abbrev pub AreDifferencesTold : Option Kept → List ℕ → ℕ → ℕ → ModelReport → ModelReport → ℕ → Type 0
AreDifferencesTold None bytes before after refusal_before refusal status =
    (after ≡ before) × (refusal ≡ refusal_before) × (status ≡ NO_MACHINE)
AreDifferencesTold (Some k) bytes before after refusal_before refusal status =
    (answer : CountAnswer) × Counts k bytes answer
    × (after ≡ differences_by answer) × (refusal ≡ refusal_of_count answer) × (status ≡ status_of_count answer)

-- the model that the bytes hold is the machine's target, if its differences were counted; otherwise the machine is unchanged
abbrev pub KeepsTarget : Kept → List ℕ → Kept → CountAnswer → Type 0
KeepsTarget old bytes new (Counted count) =
    (m : Matrix) × (model bytes ≡ Ok m) × (new ≡ record old { target = Some m })
KeepsTarget old bytes new _ = new ≡ old

-- a machine is given its target
abbrev pub IsTargetSet : Option Kept → List ℕ → Option Kept → ℕ → ℕ → ModelReport → ModelReport → ℕ → Type 0
IsTargetSet None bytes new before after refusal_before refusal status =
    (new ≡ None) × (after ≡ before) × (refusal ≡ refusal_before) × (status ≡ NO_MACHINE)
IsTargetSet (Some old) bytes new before after refusal_before refusal status =
    (k : Kept) × (new ≡ Some k) × (answer : CountAnswer) × Counts old bytes answer × KeepsTarget old bytes k answer
    × (after ≡ differences_by answer) × (refusal ≡ refusal_of_count answer) × (status ≡ status_of_count answer)

-- the call returns the number of coordinates at which the matrix of a machine differs from its target, if it has one
abbrev pub IsRemainingTold : Option Kept → ℕ → ℕ → ℕ → Type 0
IsRemainingTold None before after status = (after ≡ before) × (status ≡ NO_MACHINE)
IsRemainingTold (Some k) before after status =
    ((k.target ≡ None) × (after ≡ before) × (status ≡ NO_TARGET))
    ⊎ ((m : Matrix) × (k.target ≡ Some m) × (after ≡ difference_count k.state.matrix m) × (status ≡ DONE))
