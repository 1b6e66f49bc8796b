-- When a run may consume the next bytes of its trace, and the effect.
use Rattle.std.specs.Prelude.{◌≡◌, ℕ, ◌+◌, ◌≤◌, List, ◌++◌, length, take, false}
use Rattle.nano_spec.specs.declared.commands.Command.{Command}
use Rattle.nano_spec.specs.declared.system.Profile.{Profile}
use Rattle.nano_spec.specs.Matrix.{Matrix}
use Rattle.run_progress.specs.Progress.{Pushes}
use Rattle.trace_judge.specs.Course.{Course}
use Rattle.trace_judge.specs.Payment.{Touches}
use Rattle.trace_codec.specs.declared.decoder.Fed.{Fed}
use Rattle.trace_codec.specs.declared.decoder.Fed.TheVariants.{Got, All, Bad}
use Rattle.nanobot_rows.specs.Reading.{HasRun, RunState}
use Rattle.nanobot_rows.specs.Touching.{HasPaid}

-- a run may consume the bytes: it is not poisoned, and with them its trace is within the limit
pub record CanFeed (s : RunState) (bytes : List ℕ) : Type 0 where
  pub offset : s.decoder.offset + length s.decoder.held + length bytes ≤ 1073741824
  pub stands : s.run.spent ≡ false

-- a run consumes the bytes, with touches counted from `began` to `ended`: whatever bytes it had consumed, it has now consumed
-- these too, and the work of their commands pays for the touches
pub record Takes (old : RunState) (bytes : List ℕ) (new : RunState) (began ended : ℕ) : Type 0 where
  pub run : (source : Matrix) (profile : Profile) (before : List ℕ) → HasRun source profile before old
      → HasRun source profile (before ++ bytes) new
  pub offset :
      new.decoder.offset + length new.decoder.held ≤ old.decoder.offset + length old.decoder.held + length bytes
  pub resolution : new.run.progress.state.matrix.resolution ≡ old.run.progress.state.matrix.resolution
  pub stands : new.run.spent ≡ false
  pub paid : (source : Matrix) (profile : Profile) (before : List ℕ) (start : ℕ)
      → old.run.progress.state.matrix.resolution ≡ source.resolution → HasPaid source profile before old start began
      → HasPaid source profile (before ++ bytes) new start ended

-- a run consumes the first n bytes of a piece, at least one
pub record TakesFront (old : RunState) (piece : List ℕ) (n : ℕ) (new : RunState) (began ended : ℕ) : Type 0 where
  pub some : 1 ≤ n
  pub within : n ≤ length piece
  pub takes : Takes old (take n piece) new began ended

-- a runner gets a command
pub record Gains (old : Course) (command : Command) (new : Course) (began ended : ℕ) : Type 0 where
  pub progress : Pushes old.progress command new.progress
  pub stands : new.spent ≡ false
  pub resolution : new.progress.state.matrix.resolution ≡ old.progress.state.matrix.resolution
  pub touches : Touches old.progress new.progress command began ended

-- a runner gets the command cut from the front of `count` bytes, of which then n are consumed
abbrev pub Gets : Course → Fed → ℕ → ℕ → Course → ℕ → ℕ → Type 0
Gets old (Got command used) count n new began ended = (n ≡ used) × Gains old command new began ended
Gets old All count n new began ended = (n ≡ count) × (new ≡ old) × (ended ≡ began)
Gets old (Bad _) count n new began ended = (n ≡ count) × (new ≡ old) × (ended ≡ began)
