-- The history of calls that led to a machine, and the run of a trace's commands.
use Rattle.std.specs.Prelude.{◌≡◌, ℕ, List, [], ◌++◌, Some, true}
use Rattle.nano_spec.specs.declared.commands.Command.{Command}
use Rattle.nano_spec.specs.declared.outcomes.Verdict.{Verdict}
use Rattle.nano_spec.specs.declared.system.Profile.{Profile}
use Rattle.nano_spec.specs.Matrix.{Matrix}
use Rattle.nano_spec.specs.Verdict.{Run, VerdictOf}
use Rattle.kept_machine.specs.declared.done.StepDone.{StepDone}
use Rattle.kept_machine.specs.Calls.{BeginsTrace, IsMade, IsTakenBack}
use Rattle.kept_machine.specs.Kept.{Kept, kept_opening}

-- calls have led to the machine: it was started, and then keeps its trace, gets a target, makes a step, undoes one, or is a
-- copy; all other calls, and refused ones, leave it as it was
pub data IsLedTo (source : Matrix) (profile : Profile) : Kept → Type 0 where
  by_start : {k : Kept} (room : ℕ) → k ≡ kept_opening source profile room → IsLedTo source profile k
  by_keep : {k : Kept} (old : Kept) → IsLedTo source profile old → BeginsTrace old k true → IsLedTo source profile k
  by_aim : {k : Kept} (old : Kept) (target : Matrix) → IsLedTo source profile old
      → k ≡ record old { target = Some target } → IsLedTo source profile k
  by_step : {k : Kept} (old : Kept) (commands : List Command) (ok : StepDone) → IsLedTo source profile old
      → IsMade old commands k ok → IsLedTo source profile k
  by_undo : {k : Kept} (old : Kept) → IsLedTo source profile old → IsTakenBack old k → IsLedTo source profile k
  by_copy : {k : Kept} (old : Kept) → IsLedTo source profile old → k ≡ record old { past = [] }
      → IsLedTo source profile k

-- the run of these commands from the source reaches the machine's state: whatever follows them, and whatever the target is, the
-- verdict is that of the rest from this state on
abbrev pub RunsThrough : Matrix → Profile → List Command → Kept → Type 0
RunsThrough source profile made k =
    (target : Matrix) (rest : List Command) (verdict : Verdict) → Run target k.state rest k.steps verdict
    → VerdictOf source target (made ++ rest) profile verdict
