-- The answers of the rows that store a plan.
use Rattle.std.specs.FinMap as finite
use Rattle.std.proofs.Common.{◌≡◌, ℕ, List, length, refl}
use Rattle.std.specs.Prelude.{ℤ, Option, Some, None, Ok, Err, IfSome, IsSomeAnd}
use Rattle.nano_spec.specs.declared.commands.Command.{Command}
use Rattle.nano_spec.specs.Matrix.{Matrix}
use Rattle.nano_spec.specs.Spelling.{spellings}
use Rattle.plan_choice.specs.Planners.{PlanFacts}
use Rattle.plan_tape.specs.declared.tape.Plan.{Plan}
use Rattle.vox_depot.specs.Files.{Files}
use Rattle.nanobot_words.specs.declared.planner.Planner.{Planner}
use Rattle.nanobot_words.specs.declared.planner.Planner.TheVariants.{Layer, Group, Crew, Void, Low, Swarm}
use Rattle.nanobot_words.specs.Rows.{HasName, TakesSides, plan}
use Rattle.nanobot_rows.specs.declared.effect.Effect.{Effect}
use Rattle.nanobot_rows.specs.declared.effect.NewFile.{NewFile}
use Rattle.nanobot_rows.specs.declared.report.Report.{Report}
use Rattle.nanobot_rows.specs.declared.report.Report.TheVariants as report
use Rattle.nanobot_rows.specs.declared.stop.Stop.{Stop}
use Rattle.nanobot_rows.specs.declared.stop.Stop.TheVariants as stop
use Rattle.nanobot_rows.specs.Answer.{AnswerOf, ModelsOf, Stores, StoresPlan, facts_of}
use Rattle.nanobot_rows.specs.Effects.{EndsStored, KeepsPlan, bytes_by, files_with, reply_by, status_by}
use Rattle.nanobot_rows.specs.Models.{AreModels}
use Rattle.nanobot_rows.specs.Plans.{Plans, TakesModels}
use Rattle.nanobot_rows.specs.Reading.{end_of}
use Rattle.nanobot_rows.specs.Report.{report_line}
use Rattle.nanobot_rows.proofs.Replies.{models_found}
use Rattle.nanobot_rows.proofs.Told.{weaker}

-- if one of two sides is named, they are not both none
pub some_named : (source target : Option (List ℕ)) → HasName source target → source ≡ None → target ≡ None → ⊥
some_named None None named first second = named
some_named None (Some t) named first second = absurd (cc)
some_named (Some s) target named first second = absurd (cc)

-- the answer that keeps a plan
plan_kept : (Is : PlanFacts) (s t : Matrix) (name : List ℕ) (commands : List Command) (energy : ℤ) (steps : ℕ)
    (effect : Effect) → Is s t commands energy steps → KeepsPlan name commands energy steps effect → (files : Files)
    → StoresPlan Is name s t files (reply_by files effect)
plan_kept Is s t name commands energy steps effect is keeps files = (commands, energy, steps, is, by effect.file keeps.file)
  where
    planned : Report
    planned = report.Planned energy steps (length commands) (length (spellings commands))

    by : (o : Option NewFile) → IsSomeAnd o (λ file. (file.name.now ≡ name) × (file.bytes.items ≡ spellings commands))
        → Stores (report_line planned) name (spellings commands) files
        (record { status = status_by effect.message; line = bytes_by effect.message; after = files_with files o })
    by None h = absurd h
    by (Some file) h = λ i. record { status = status_by (keeps.told i); line = bytes_by (keeps.told i); after = finite.insert files (h.0 i) (h.1 i) }

-- a side without a file is the empty model
takes_models : (planner : Planner) (source target : Option (List ℕ)) (files : Files) (s t : Matrix)
    → TakesSides planner source target → AreModels source target files s t → TakesModels planner s t
takes_models Layer source target files s t takes models = tt
takes_models Group source target files s t takes models = tt
takes_models Crew source target files s t takes models = tt
takes_models Void (Some source) None files s t takes models = models.target_is
takes_models Low None (Some target) files s t takes models = models.source_is
takes_models Swarm None (Some target) files s t takes models = models.source_is
takes_models Void None target files s t takes models = absurd takes
takes_models Void (Some source) (Some target) files s t takes models = absurd takes
takes_models Low (Some source) None files s t takes models = absurd takes
takes_models Low (Some source) (Some target) files s t takes models = absurd takes
takes_models Low None None files s t takes models = absurd takes
takes_models Swarm (Some source) None files s t takes models = absurd takes
takes_models Swarm (Some source) (Some target) files s t takes models = absurd takes
takes_models Swarm None None files s t takes models = absurd takes

module _ (planner : Planner) (told : Option Files) (source target : Option (List ℕ)) (trace : List ℕ) (s t : Matrix) (found : IfSome told (λ files. ModelsOf source target files (Ok (s, t)))) where
  -- the planner stops the call
  pub plan_stops : (rose : Type 0) (x : Stop) → Plans planner s t (Err x)
      → EndsStored (AnswerOf (plan planner source target trace)) told rose (Err x)
  plan_stops rose (stop.Told r) why = weaker told (λ files models. (Ok (s, t), models, (Err (end_of r), why files, refl))) found
  plan_stops rose stop.Depot why = absurd why
  plan_stops rose stop.Memory why = tt

  -- its plan is kept
  pub plan_ends : TakesSides planner source target → (it : Plan) (effect : Effect) → Plans planner s t (Ok it)
      → KeepsPlan trace it.commands it.energy it.steps effect
      → IfSome told (λ files. AnswerOf (plan planner source target trace) files (reply_by files effect))
  plan_ends takes it effect plans keeps = weaker told (λ files models.
      let facts = plans.1 (takes_models planner source target files s t takes (models_found files source target s t models)) in
      (Ok (s, t), models, (Ok tt, plans.0 files, plan_kept (facts_of planner) s t trace it.commands it.energy it.steps effect facts keeps files))) found
