-- The headline of the top call, over known files: the meaning of a run that takes its whole trace.
use Rattle.std.specs.Prelude.{◌≡◌, ℕ, ◌^◌, ◌<◌, ◌≤◌, ℤ, unsigned_abs, List, length, Option, IsSomeAnd}
use Rattle.std.specs.Io.KnownBytes.{append_known}
use Rattle.nano_spec.specs.declared.commands.Command.{Command}
use Rattle.nano_spec.specs.declared.outcomes.Verdict.TheVariants.{Accepted}
use Rattle.nano_spec.specs.Cutting.{Cutting}
use Rattle.nano_spec.specs.Matrix.{Matrix}
use Rattle.nano_spec.specs.Profile.{full_profile}
use Rattle.nano_spec.specs.Verdict.{VerdictOf}
use Rattle.vox_depot.specs.Files.{Files, content}
use Rattle.nanobot_rows.specs.declared.status.Status.{Status}
use Rattle.nanobot_rows.specs.declared.status.Status.TheVariants as is
use Rattle.plan_choice.specs.Planners.{byte_limit}
use Rattle.nanobot_rows.specs.Models.{AreModels}
use Rattle.nanobot_rows.specs.Lines.{accepted_line}
use Rattle.nanobot_words.specs.Rows.{HasName}

-- the machine of the definitions takes the whole trace from one model to the other, to a halt, with this energy and this
-- number of steps
abbrev pub TakesBytes : Matrix → Matrix → List ℕ → ℤ → ℕ → Type 0
TakesBytes source target bytes energy steps =
    (length bytes ≤ byte_limit) × ((commands : List Command) × Cutting bytes commands
    × VerdictOf source target commands full_profile (Accepted energy steps))

-- the same for files: at least one model has a file, both are legal and of the same resolution, and the file of the trace
-- is not too long
pub record MachineTakes (files : Files) (source target : Option (List ℕ)) (trace : List ℕ) (energy : ℤ) (steps : ℕ)
    : Type 0 where
  pub named : HasName source target
  -- the models; a side without a file is the empty model of the other's resolution
  pub from : Matrix
  pub to : Matrix
  pub models : AreModels source target files from to
  pub taken : IsSomeAnd (content files trace) (λ bytes. TakesBytes from to bytes energy steps)

-- the numbers are small enough for an `i64` and a `u32`
abbrev pub IsCost : ℤ → ℕ → Type 0
IsCost energy steps = (unsigned_abs energy < 2 ^ 63) × (steps < 2 ^ 32)

-- it answers 0 and prints the energy and the number of steps, which are small
abbrev pub IsDoneWith : Status → Option (List ℕ) → Option (List ℕ) → ℤ → ℕ → Type 0
IsDoneWith result before now energy steps =
    (result ≡ is.Done) × IsCost energy steps × (now ≡ append_known before (accepted_line energy steps))
