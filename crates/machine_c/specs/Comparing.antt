-- Comparison of a machine's matrix with a target.
use Rattle.std.specs.Prelude.{◌≡◌, ◌≢◌, ℕ, List, Option, Some, None, Ok, Err}
use Rattle.nano_spec.specs.Matrix.{Matrix}
use Rattle.nano_spec.specs.Model.{model}
use Rattle.nano_spec.specs.Verdict.{first_difference}
use Rattle.model_file.specs.declared.fault.ModelFault.TheVariants as model_fault
use Rattle.model_file.specs.Fault.{ReadsModel}
use Rattle.kept_machine.specs.Kept.{Kept}
use Rattle.machine_c.specs.declared.comparing.TargetAnswer.{TargetAnswer}
use Rattle.machine_c.specs.declared.comparing.TargetAnswer.TheVariants.{Same, Differs, Unlike, Refused}
use Rattle.machine_c.specs.declared.status.TheConstants.{DIFFERS, DONE, MEMORY, MODEL, NO_MACHINE, RESOLUTION}
use Rattle.machine_c.specs.declared.reports.ModelReport.{ModelReport}
use Rattle.machine_c.specs.declared.reports.PlaceReport.{PlaceReport}
use Rattle.machine_c.specs.Told.{fault_told, number_refusal}

-- the comparison of a matrix with the bytes of a target, which need not be legal
abbrev pub Compares : Kept → List ℕ → TargetAnswer → Type 0
Compares k bytes Same =
    (m : Matrix) × (model bytes ≡ Ok m) × (m.resolution ≡ k.state.matrix.resolution)
    × (first_difference k.state.matrix m ≡ None)
Compares k bytes (Differs at) =
    (m : Matrix) × (model bytes ≡ Ok m) × (m.resolution ≡ k.state.matrix.resolution)
    × (first_difference k.state.matrix m ≡ Some at)
Compares k bytes Unlike = (m : Matrix) × (model bytes ≡ Ok m) × (m.resolution ≢ k.state.matrix.resolution)
Compares k bytes (Refused fault) = ReadsModel (model bytes) (Err fault)

-- the status, the coordinate of a difference, and the refusal
abbrev pub status_of_target : TargetAnswer → ℕ
status_of_target Same = DONE
status_of_target (Differs at) = DIFFERS
status_of_target Unlike = RESOLUTION
status_of_target (Refused model_fault.Memory) = MEMORY
status_of_target (Refused _) = MODEL

abbrev pub place_by : TargetAnswer → PlaceReport
place_by (Differs at) = record { x = at.x; y = at.y; z = at.z }
place_by _ = record { x = 0; y = 0; z = 0 }

abbrev pub refusal_of_target : TargetAnswer → ModelReport
refusal_of_target (Refused fault) = fault_told fault
refusal_of_target _ = number_refusal 0 0 0

-- the matrix of a machine is compared with a target
abbrev pub IsCompared : Option Kept → List ℕ → PlaceReport → PlaceReport → ModelReport → ModelReport → ℕ → Type 0
IsCompared None bytes before after refusal_before refusal status =
    (after ≡ before) × (refusal ≡ refusal_before) × (status ≡ NO_MACHINE)
IsCompared (Some k) bytes before after refusal_before refusal status =
    (answer : TargetAnswer) × Compares k bytes answer
    × (after ≡ place_by answer) × (refusal ≡ refusal_of_target answer) × (status ≡ status_of_target answer)
