-- The answers of `exercise`.
use Rattle.std.proofs.Common.{◌≡◌, ◌∙◌, ℕ, List, sym, ap, subst}
use Rattle.std.specs.Prelude.{ℤ, Option, IfSome}
use Rattle.nano_spec.specs.declared.commands.Command.{Command}
use Rattle.nano_spec.specs.Forge.{forged}
use Rattle.nano_spec.specs.Matrix.{Matrix, empty, full_count}
use Rattle.vox_depot.specs.Files.{Files}
use Rattle.nanobot_rows.specs.declared.report.Cost.{Cost}
use Rattle.nanobot_rows.specs.declared.report.Report.TheVariants.{Exercised}
use Rattle.nanobot_words.specs.Rows.{exercise}
use Rattle.nanobot_rows.specs.Answer.{AnswerOf, Costs}
use Rattle.plan_choice.specs.Planners.{IsGroupPlan, IsLayerPlan, PlanFacts}
use Rattle.nanobot_rows.specs.Reading.{reply_of}
use Rattle.nanobot_rows.proofs.Told.{if_some}

-- both plans have the reported costs
pub exercised : (told : Option Files) (number resolution full : ℕ) (target : Matrix) (layer group : Cost)
    → target ≡ forged number resolution → Costs IsLayerPlan target layer → Costs IsGroupPlan target group
    → full ≡ full_count target → IfSome told
    (λ files. AnswerOf (exercise number resolution) files (reply_of files (Exercised number resolution full layer group)))
exercised told number resolution full target layer group e l g f =
    if_some told (λ files _. (
      layer,
      group,
      subst (λ (m : Matrix). Costs IsLayerPlan m layer) e l,
      subst (λ (m : Matrix). Costs IsGroupPlan m group) e g,
      ap (λ (n : ℕ). reply_of files (Exercised number resolution n layer group)) (f ∙ ap full_count e),
    ))

-- a plan from the empty model of this resolution
pub costs_of : (Is : PlanFacts) (r : ℕ) (nothing target : Matrix) (commands : List Command) (energy : ℤ) (steps : ℕ)
    (cost : Cost) → nothing ≡ empty r → target.resolution ≡ r → Is nothing target commands energy steps
    → cost ≡ record { energy = energy; steps = steps } → Costs Is target cost
costs_of Is r nothing target commands energy steps cost e same is c =
    (commands, subst (λ (k : Cost). Is (empty target.resolution) target commands k.energy k.steps) (sym c) (subst (λ (m : Matrix). Is m target commands energy steps) (e ∙ ap empty (sym same)) is))
