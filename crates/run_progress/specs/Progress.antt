-- The progress of a run after the commands so far, and the change by one more command (docs/FORMATS.md, "Rules").
use Rattle.std.specs.Prelude.{◌≡◌, ℕ, ◌+◌, ◌==◌, List, [], ◌∷◌, ◌++◌, length, Some, MatchBool}
use Rattle.nano_spec.specs.declared.commands.Command.{Command}
use Rattle.nano_spec.specs.declared.outcomes.Broken.{Broken}
use Rattle.nano_spec.specs.declared.outcomes.Rule.TheVariants.{AfterHalt}
use Rattle.nano_spec.specs.declared.outcomes.Verdict.{Verdict}
use Rattle.nano_spec.specs.declared.outcomes.Verdict.TheVariants as verdict
use Rattle.nano_spec.specs.declared.system.Bot.{Bot}
use Rattle.nano_spec.specs.declared.system.Profile.{Profile}
use Rattle.nano_spec.specs.Matrix.{Matrix}
use Rattle.nano_spec.specs.Next.{Next, Outcome, Goes, Breaks}
use Rattle.nano_spec.specs.Rules.{judge_trace}
use Rattle.nano_spec.specs.State.{State, opening, origin}
use Rattle.nano_spec.specs.Verdict.{broken_end, compared, first_difference}

-- steps are made, or one was refused, or the last bot has halted, or a command came after that
pub data Mark : Type 0 where
  Running : Mark
  Refused : Broken → Mark
  Halted : Mark
  Followed : Mark

-- the state after the steps that were made, their number, the commands that have come for the next step, and the mark
pub record Progress : Type 0 where
  pub state : State
  pub steps : ℕ
  pub pending : List Command
  pub mark : Mark

-- the progress before the first command
abbrev pub begun : Matrix → Profile → Progress
begun source profile = record { state = opening source profile; steps = 0; pending = []; mark = Running }

-- the mark after a step, by the bots that are left
abbrev pub mark_of : List Bot → Mark
mark_of [] = Halted
mark_of (bot ∷ bots) = Running

-- the progress once all commands of the next step are there, by their outcome
abbrev pub stepped : Progress → Outcome → Progress
stepped p (Goes t) = record { state = t; steps = p.steps + 1; pending = []; mark = mark_of t.bots }
stepped p (Breaks b) = record p { mark = Refused b }

-- the command joins those of the next step
abbrev pub with_command : Progress → Command → Progress
with_command p command = record p { pending = p.pending ++ command ∷ [] }

-- as many commands have come for the next step as bots are active: q is the progress after that step
abbrev pub MakesStep : Progress → Progress → Type 0
MakesStep p q = (outcome : Outcome) × Next p.state p.pending (p.steps + 1) outcome × (q ≡ stepped p outcome)

-- while the run goes on, a command joins the next step, which is made once each bot has one
abbrev pub Joins : Progress → Progress → Type 0
Joins p q = MatchBool (length p.pending == length p.state.bots) (MakesStep p q) (q ≡ p)

-- q is the progress after one more command
abbrev pub PushesAt : Mark → Progress → Command → Progress → Type 0
PushesAt Running p command q = Joins (with_command p command) q
PushesAt (Refused b) p command q = q ≡ p
PushesAt Halted p command q = q ≡ record p { mark = Followed }
PushesAt Followed p command q = q ≡ p

abbrev pub Pushes : Progress → Command → Progress → Type 0
Pushes p command q = PushesAt p.mark p command q

-- the progress that the commands make one after another from the opening
pub data Comes (source : Matrix) (profile : Profile) : List Command → Progress → Type 0 where
  first : {commands : List Command} {p : Progress} → commands ≡ [] → p ≡ begun source profile
      → Comes source profile commands p
  later : {commands : List Command} {p : Progress} (before : List Command) (q : Progress) (command : Command)
      → Comes source profile before q → Pushes q command p → commands ≡ before ++ command ∷ []
      → Comes source profile commands p

-- the verdict if no further command comes: a step that was begun lacks commands
abbrev pub FinishesAt : Mark → Matrix → Progress → Verdict → Type 0
FinishesAt Running target p v =
    (b : Broken) × (judge_trace p.state p.pending (p.steps + 1) ≡ Some b) × (v ≡ verdict.Refused b)
FinishesAt (Refused b) target p v = v ≡ verdict.Refused b
FinishesAt Halted target p v = v ≡ compared p.state.energy p.steps (first_difference p.state.matrix target)
FinishesAt Followed target p v = v ≡ broken_end p.steps AfterHalt origin

abbrev pub Finishes : Matrix → Progress → Verdict → Type 0
Finishes target p v = FinishesAt p.mark target p v
