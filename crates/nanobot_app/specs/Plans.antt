-- The guarantees for a stored plan.
use Rattle.std.specs.Prelude.{◌≡◌, ℕ, ℤ, List, Option, ⊤}
use Rattle.nanobot_rows.specs.declared.report.Report.TheVariants.{Accepted}
use Rattle.nanobot_rows.specs.Answer.{AnswerOf, Reply}
use Rattle.nanobot_rows.specs.Reading.{reply_of}
use Rattle.nanobot_rows.specs.Lines.{planned_line}
use Rattle.nanobot_words.specs.declared.planner.Planner.{Planner}
use Rattle.nanobot_words.specs.declared.planner.Planner.TheVariants.{Low, Swarm}
use Rattle.nanobot_words.specs.declared.row.Round.{Round}
use Rattle.nanobot_words.specs.Rows.{run}

-- a planner whose plans the light profile accepts too
abbrev pub PlansAsLight : Planner → Type 0
PlansAsLight Low = ⊤
PlansAsLight Swarm = ⊤
PlansAsLight planner = ⊥

-- the reply reports a plan, and a run in the round over the resulting files answers 0 with its energy and its
-- steps
pub record IsRunOfPlan (round : Round) (source target : Option (List ℕ)) (trace : List ℕ) (reply : Reply) : Type 0 where
  pub energy : ℤ
  pub steps : ℕ
  pub commands : ℕ
  pub bytes : ℕ
  pub told : reply.line ≡ planned_line energy steps commands bytes
  pub accepted : AnswerOf (run round source target trace) reply.after (reply_of reply.after (Accepted energy steps))
