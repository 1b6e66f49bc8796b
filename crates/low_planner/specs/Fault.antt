-- The reasons for having no plan, and the facts of a plan.
use Rattle.std.specs.Prelude.{ℕ, Some, ⊤}
use Rattle.nano_spec.specs.Matrix.{Matrix}
use Rattle.low_planner.specs.declared.fault.LowFault.{LowFault}
use Rattle.low_planner.specs.declared.fault.LowFault.TheVariants.{Unsupported, Memory}
use Rattle.low_planner.specs.Supported.{FirstUnsupported}

-- the printed number of a refusal
abbrev pub low_fault_number : LowFault → ℕ
low_fault_number (Unsupported at) = 1
low_fault_number Memory = 2

-- the refusal has its cause: at is the least voxel of all parts that are unsupported, or there was no memory
abbrev pub HasCause : Matrix → LowFault → Type 0
HasCause m (Unsupported at) = FirstUnsupported m (Some at)
HasCause m Memory = ⊤
