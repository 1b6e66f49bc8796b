-- The result for the runs of the wide form, and the matrix that it fills (docs/FORMATS.md, "Model files", "The wide
-- form").
use Rattle.std.specs.Prelude.{◌≡◌, ℕ, ◌++◌, Bool, List, Result, Ok, Err, flat_map}
use Rattle.nano_spec.specs.Matrix.{Matrix}
use Rattle.nano_spec.specs.Model.{four_bytes, of_runs, run_lengths, runs_in, volume}
use Rattle.model_file.specs.declared.fault.ModelRefusal.{ModelRefusal}
use Rattle.model_file.specs.Fault.{SaysNone, why_refused}

-- the matrix is that of the runs, or the result is the reason why they are none
abbrev pub FillsRuns : ℕ → List ℕ → Matrix → Result (Unit {0}) ModelRefusal → Type 0
FillsRuns r bytes m (Ok done) = of_runs r (runs_in (volume r) 0 0 bytes) ≡ Ok m
FillsRuns r bytes m (Err refusal) = SaysNone (of_runs r (runs_in (volume r) 0 0 bytes)) (why_refused refusal)

-- bytes, and behind them the runs of voxels, after n of one value were counted already
abbrev pub with_runs : List ℕ → ℕ → Bool → List Bool → List ℕ
with_runs bytes run full more = bytes ++ flat_map four_bytes (run_lengths run full more)
