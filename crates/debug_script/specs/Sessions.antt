-- The printed text of a script (docs/FORMATS.md, "Sessions").
use Rattle.std.specs.Prelude.{◌≡◌, ℕ, false, List, [], ◌∷◌, ◌++◌, IsSomeAnd, Option}
use Rattle.nano_spec.specs.declared.commands.Command.{Command}
use Rattle.nano_spec.specs.declared.system.Profile.{Profile}
use Rattle.nano_spec.specs.Matrix.{Matrix}
use Rattle.step_debugger.specs.Debugging.{Debugging}
use Rattle.step_debugger.specs.Session.{AnswersLine, DebugLine, DebugReport, Session, opened}
use Rattle.debug_script.specs.Printing.{printed_report}

-- the lines, one after another, answered from a session on, print this
abbrev pub Prints : List Command → List DebugLine → Session → List ℕ → Type 0
Prints commands [] s text = text ≡ []
Prints commands (line ∷ more) s text =
    (t : Session) × (report : DebugReport) × (rest : List ℕ) × AnswersLine commands line s t report
    × Prints commands more t rest × (text ≡ printed_report report ++ rest)

-- a line was answered: its printed text was appended, and allocation did not fail
pub record IsTold (line : DebugLine) (old new : Debugging) (before after : List ℕ) : Type 0 where
  pub report : DebugReport
  pub answers : AnswersLine old.commands line old.session new.session report
  pub text : after ≡ before ++ printed_report report
  pub commands : new.commands ≡ old.commands
  pub stands : new.spent ≡ false

-- the lines of the report, if there is one, were appended to the text
abbrev pub IsPut : Option DebugReport → List ℕ → List ℕ → Type 0
IsPut told before after = IsSomeAnd told (λ report. after ≡ before ++ printed_report report)
