-- The outcome of planning between two models.
use Rattle.std.specs.Prelude.{◌≡◌, Result, Ok, Err, ⊤}
use Rattle.nano_spec.specs.Matrix.{Matrix, empty}
use Rattle.plan_tape.specs.declared.tape.Plan.{Plan}
use Rattle.nanobot_words.specs.declared.planner.Planner.{Planner}
use Rattle.nanobot_words.specs.declared.planner.Planner.TheVariants.{Low, Swarm, Void}
use Rattle.nanobot_rows.specs.declared.stop.Stop.{Stop}
use Rattle.nanobot_rows.specs.declared.stop.Stop.TheVariants as stop
use Rattle.vox_depot.specs.Files.{Files}
use Rattle.nanobot_rows.specs.Answer.{CanPlan, facts_of}
use Rattle.nanobot_rows.specs.Reading.{end_of}

-- the models that a planner accepts: a side without a file is the empty model
abbrev pub TakesModels : Planner → Matrix → Matrix → Type 0
TakesModels Void source target = target ≡ empty source.resolution
TakesModels Low source target = source ≡ empty target.resolution
TakesModels Swarm source target = source ≡ empty target.resolution
TakesModels planner source target = ⊤

-- the outcome of planning: a plan, or the report that there is none between these models, or out of memory
abbrev pub Plans : Planner → Matrix → Matrix → Result Plan Stop → Type 0
Plans planner source target (Ok plan) = ((files : Files) → CanPlan planner source target files (Ok tt))
    × (TakesModels planner source target → facts_of planner source target plan.commands plan.energy plan.steps)
Plans planner source target (Err (stop.Told report)) =
    (files : Files) → CanPlan planner source target files (Err (end_of report))
Plans planner source target (Err stop.Depot) = ⊥
Plans planner source target (Err stop.Memory) = ⊤
