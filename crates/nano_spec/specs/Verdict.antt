-- The outcome of a run (task description, section on execution; that commands after the Halt are refused is this
-- project's own: docs/FORMATS.md, "Rules").
use Rattle.std.specs.Prelude.{◌≡◌, ℕ, ◌+◌, ℤ, List, [], ◌∷◌, length, take, drop, find, Option, Some, None}
use Rattle.vox_geom.specs.declared.coordinate.Coord.{Coord}
use Rattle.nano_spec.specs.declared.commands.Command.{Command}
use Rattle.nano_spec.specs.declared.outcomes.Broken.{Broken}
use Rattle.nano_spec.specs.declared.outcomes.Rule.{Rule}
use Rattle.nano_spec.specs.declared.outcomes.Rule.TheVariants.{AfterHalt, WrongResult}
use Rattle.nano_spec.specs.declared.outcomes.Verdict.{Verdict}
use Rattle.nano_spec.specs.declared.outcomes.Verdict.TheVariants.{Accepted, Refused}
use Rattle.nano_spec.specs.declared.system.Bot.{Bot}
use Rattle.nano_spec.specs.declared.system.Profile.{Profile}
use Rattle.nano_spec.specs.Matrix.{Matrix, all_of, differ_at}
use Rattle.nano_spec.specs.Next.{Next, Goes, Breaks}
use Rattle.nano_spec.specs.State.{State, opening, origin}

-- the least coordinate at which two matrices of one resolution differ
abbrev pub first_difference : Matrix → Matrix → Option Coord
first_difference m target = find (differ_at m target) (all_of m)

-- a rule that is broken at the end of a run, after this many steps
abbrev pub broken_end : ℕ → Rule → Coord → Verdict
broken_end steps rule at = Refused (record { step = steps; bid = 0; rule = rule; at = at })

-- the verdict once no bot and no command is left: the matrix has to be the target
abbrev pub compared : ℤ → ℕ → Option Coord → Verdict
compared energy steps None = Accepted energy steps
compared energy steps (Some c) = broken_end steps WrongResult c

-- the verdict once no bot is left
abbrev pub ending : Matrix → State → List Command → ℕ → Verdict
ending target s [] steps = compared s.energy steps (first_difference s.matrix target)
ending target s (command ∷ more) steps = broken_end steps AfterHalt origin

-- the verdict on the commands from a state on, after this many steps: a step takes as many commands as there are bots
pub data Run (target : Matrix) : State → List Command → ℕ → Verdict → Type 0 where
  ends : {s : State} {commands : List Command} {steps : ℕ} {verdict : Verdict} → s.bots ≡ []
      → verdict ≡ ending target s commands steps → Run target s commands steps verdict
  breaks : {s : State} {commands : List Command} {steps : ℕ} {verdict : Verdict} {bot : Bot} {bots : List Bot}
      {b : Broken} → s.bots ≡ bot ∷ bots → Next s (take (length s.bots) commands) (steps + 1) (Breaks b)
      → verdict ≡ Refused b → Run target s commands steps verdict
  goes : {s : State} {commands : List Command} {steps : ℕ} {verdict : Verdict} {bot : Bot} {bots : List Bot} {t : State}
      → s.bots ≡ bot ∷ bots → Next s (take (length s.bots) commands) (steps + 1) (Goes t)
      → Run target t (drop (length s.bots) commands) (steps + 1) verdict → Run target s commands steps verdict

-- the verdict of a trace that is to make the target of the source, which are of one resolution
abbrev pub VerdictOf : Matrix → Matrix → List Command → Profile → Verdict → Type 0
VerdictOf source target commands profile verdict = Run target (opening source profile) commands 0 verdict
