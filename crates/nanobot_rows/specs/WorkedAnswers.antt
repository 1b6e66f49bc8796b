-- Worked examples of answers to commands over files: the status, the line and the files afterwards (docs/FORMATS.md,
-- "Printed lines"), and of the touches of a run ("Levels and work").
use Rattle.std.specs.FinMap as finite
use Rattle.std.specs.Prelude.{◌≡◌, ℕ, ℤ, List, [], ◌∷◌, codes, Option, Some, None}
use Rattle.vox_geom.specs.Point.{coord}
use Rattle.nano_spec.specs.declared.commands.Command.{Command}
use Rattle.nano_spec.specs.declared.commands.Command.TheVariants.{Halt, Wait}
use Rattle.nano_spec.specs.Matrix.{Matrix, empty}
use Rattle.nano_spec.specs.Profile.{full_profile, light_profile}
use Rattle.nano_spec.specs.Worked.{empty_3, empty_4, hex, one_voxel, voxels_at}
use Rattle.trace_judge.specs.Payment.{IsWithinWorkOfRun}
use Rattle.vox_depot.specs.Files.{Files, content}
use Rattle.nanobot_rows.specs.declared.status.Status.{Status}
use Rattle.nanobot_rows.specs.declared.status.Status.TheVariants as is
use Rattle.nanobot_rows.specs.Answer.{Answer, AnswerOf, Found, ModelsOf, facts_of}
use Rattle.nanobot_rows.specs.Models.{AreModels, IsSide}
use Rattle.nanobot_rows.specs.Touching.{AreInFront, BeginWith, IsRowWithin, IsWithinTrace}
use Rattle.nanobot_words.specs.declared.planner.Planner.TheVariants.{Layer, Group, Crew, Void, Low, Swarm}
use Rattle.nanobot_words.specs.declared.row.Round.TheVariants.{Full, Light}
use Rattle.nanobot_words.specs.Rows.{Row, asm, check, debug, dis, exercise, make, plan, run}
use Rattle.plan_choice.specs.Planners.{IsCrewPlan, IsGroupPlan, IsLayerPlan, IsLowPlan, IsSwarmPlan, IsVoidPlan, PlanFacts}

-- the files of the examples
pub record AreWorkedFiles (files : Files) : Type 0 where
  -- at resolution 3: no voxel, the voxel (1,0,1), and the voxel (0,0,0), which is outside the legal box
  pub nothing : content files (codes "nothing.mdl") ≡ Some empty_3
  pub post : content files (codes "post.mdl") ≡ Some one_voxel
  pub edge : content files (codes "edge.mdl") ≡ Some (hex "03 01 00 00 00")
  -- at resolution 4: no voxel
  pub larger : content files (codes "larger.mdl") ≡ Some empty_4
  -- a Halt, and a trace that fills (1,0,1)
  pub halt : content files (codes "halt.nbt") ≡ Some (hex "FF")
  pub build : content files (codes "build.nbt") ≡ Some (hex "14 10 73 14 0E FF")
  pub text : content files (codes "halt.txt") ≡ Some (codes "Halt\n")
  -- an empty file, and one that does not exist
  pub blank : content files (codes "blank") ≡ Some []
  pub missing : content files (codes "missing") ≡ None

-- over those files the command has this status and this line, and stores nothing
abbrev pub Tells : Row → Status → List ℕ → Type 0
Tells row status line = (files : Files) → AreWorkedFiles files
    → AnswerOf row files (record { status = status; line = line; after = files })

-- over those files the command succeeds with this line, and stores these bytes as the file of the name
abbrev pub Makes : Row → List ℕ → List ℕ → List ℕ → Type 0
Makes row line name bytes = (files : Files) → AreWorkedFiles files
    → AnswerOf row files (record { status = is.Done; line = line; after = finite.insert files name bytes })

pub record WorkedAnswers : Type 0 where
  pub a_check : Tells (check (codes "nothing.mdl")) is.Done (codes "legal resolution 3 full 0\n")
  pub a_check_of_a_voxel : Tells (check (codes "post.mdl")) is.Done (codes "legal resolution 3 full 1\n")
  -- a missing file has no line
  pub a_check_of_no_file : Tells (check (codes "missing")) is.Depot []
  pub a_check_of_no_bytes : Tells (check (codes "blank")) is.Model (codes "model 1 NoByte\n")
  pub a_check_of_an_illegal_model : Tells (check (codes "edge.mdl")) is.Model (codes "model 6 Border at 0 0 0\n")
  pub a_run : Tells (run Full (Some (codes "nothing.mdl")) (Some (codes "post.mdl")) (codes "build.nbt")) is.Done
      (codes "ok energy 420 steps 4\n")
  pub a_light_run : Tells (run Light (Some (codes "nothing.mdl")) (Some (codes "post.mdl")) (codes "build.nbt")) is.Done
      (codes "ok energy 420 steps 4\n")
  -- `-` is the empty model of the other's resolution
  pub a_run_from_nothing : Tells (run Full None (Some (codes "post.mdl")) (codes "build.nbt")) is.Done
      (codes "ok energy 420 steps 4\n")
  pub a_run_to_nothing :
      Tells (run Full (Some (codes "nothing.mdl")) None (codes "halt.nbt")) is.Done (codes "ok energy 101 steps 1\n")
  pub a_broken_run : Tells (run Full (Some (codes "nothing.mdl")) (Some (codes "post.mdl")) (codes "halt.nbt"))
      is.Broken (codes "broken 14 WrongResult step 1 bid 0 at 1 0 1\n")
  -- the source is judged before the target is read, the target before the resolutions are compared, and these before
  -- the trace is read
  pub an_illegal_source : Tells (run Full (Some (codes "edge.mdl")) (Some (codes "missing")) (codes "missing")) is.Model
      (codes "source 6 Border at 0 0 0\n")
  pub an_illegal_target : Tells (run Full (Some (codes "larger.mdl")) (Some (codes "edge.mdl")) (codes "missing"))
      is.Model (codes "target 6 Border at 0 0 0\n")
  pub two_resolutions : Tells (run Full (Some (codes "nothing.mdl")) (Some (codes "larger.mdl")) (codes "missing"))
      is.Model (codes "resolutions 3 4\n")
  pub a_run_of_no_file :
      Tells (run Full (Some (codes "nothing.mdl")) (Some (codes "post.mdl")) (codes "missing")) is.Depot []
  pub a_text :
      Makes (asm (codes "halt.txt") (codes "new.nbt")) (codes "commands 1 bytes 1\n") (codes "new.nbt") (hex "FF")
  pub a_high_byte : Tells (asm (codes "halt.nbt") (codes "new.nbt")) is.Text (codes "text 1 NotAscii line 1\n")
  pub a_trace :
      Makes (dis (codes "halt.nbt") (codes "new.txt")) (codes "commands 1 bytes 5\n") (codes "new.txt") (codes "Halt\n")
  pub a_forged_model :
      Makes (make 0 1 (codes "new.mdl")) (codes "model resolution 1 full 0\n") (codes "new.mdl") (hex "01 00")
  pub a_layer_plan :
      Makes (plan Layer (Some (codes "nothing.mdl")) (Some (codes "nothing.mdl")) (codes "new.nbt"))
      (codes "plan energy 101 steps 1 commands 1 bytes 1\n") (codes "new.nbt") (hex "FF")
  pub a_plan_that_builds : Makes (plan Layer (Some (codes "nothing.mdl")) (Some (codes "post.mdl")) (codes "new.nbt"))
      (codes "plan energy 420 steps 4 commands 4 bytes 6\n") (codes "new.nbt") (hex "14 10 73 14 0E FF")
  pub a_low_plan : Makes (plan Low None (Some (codes "nothing.mdl")) (codes "new.nbt"))
      (codes "plan energy 101 steps 1 commands 1 bytes 1\n") (codes "new.nbt") (hex "FF")
  pub an_exercise : Tells (exercise 0 1) is.Done
      (codes "exercise number 0 resolution 1 full 0 layer energy 23 steps 1 group energy 23 steps 1\n")
  -- a script without lines prints nothing
  pub a_session : Tells (debug (codes "nothing.mdl") (codes "halt.nbt") (codes "blank")) is.Done []
  -- arguments that are no command, and arguments that are one
  pub no_arguments : (files : Files) → Answer [] files
      (record { status = is.Words; line = codes "words not understood\n"; after = files })
  pub arguments_of_a_row : (files : Files) → AreWorkedFiles files → Answer (codes "check" ∷ codes "nothing.mdl" ∷ [])
      files (record { status = is.Done; line = codes "legal resolution 3 full 0\n"; after = files })

-- the first facts hold for each plan with the second facts
abbrev pub Follow : PlanFacts → PlanFacts → Type 0
Follow Is Are = (source target : Matrix) (commands : List Command) (energy : ℤ) (steps : ℕ)
    → Are source target commands energy steps → Is source target commands energy steps

-- the facts of each planner's plans
pub record WorkedFacts : Type 0 where
  pub of_a_layer_plan : Follow IsLayerPlan (facts_of Layer)
  pub of_a_group_plan : Follow IsGroupPlan (facts_of Group)
  pub of_a_crew_plan : Follow IsCrewPlan (facts_of Crew)
  pub of_a_void_plan : Follow IsVoidPlan (facts_of Void)
  pub of_a_low_plan : Follow IsLowPlan (facts_of Low)
  pub of_a_swarm_plan : Follow IsSwarmPlan (facts_of Swarm)

-- the models of a source and a target
pub record WorkedModels : Type 0 where
  pub two_files : (files : Files) → AreWorkedFiles files → AreModels (Some (codes "nothing.mdl"))
      (Some (codes "post.mdl")) files (empty 3) (voxels_at 3 (coord 1 0 1 ∷ []))
  pub one_file : (files : Files) → AreWorkedFiles files
      → AreModels None (Some (codes "post.mdl")) files (empty 3) (voxels_at 3 (coord 1 0 1 ∷ []))
  pub not_another_model : (files : Files) → AreWorkedFiles files
      → IsSide files (Some (codes "post.mdl")) (empty 3) (empty 3) → ⊥
  pub no_names : (files : Files) (found : Found (Matrix × Matrix)) → ModelsOf None None files found → ⊥
  -- a side without a file is empty, and of the other's resolution
  pub not_a_full_model : (files : Files) → IsSide files None (voxels_at 3 (coord 1 0 1 ∷ [])) (empty 3) → ⊥
  pub not_of_another_resolution : (files : Files) → IsSide files None (empty 4) (empty 3) → ⊥

-- the touches of a run are bounded by the work of the commands that its trace begins with
pub record WorkedTouching : Type 0 where
  pub a_longest_front : AreInFront (hex "FE FF") (Wait ∷ Halt ∷ [])
  pub not_a_shorter_front : AreInFront (hex "FE FF") (Wait ∷ []) → ⊥
  pub a_front : BeginWith (hex "FE FF") (Wait ∷ [])
  pub no_front_of_no_bytes : BeginWith [] (Halt ∷ []) → ⊥
  pub of_the_longest_front : (before after : ℕ) → IsWithinTrace full_profile (empty 3) (hex "FE FF") before after
      → IsWithinWorkOfRun (empty 3) (Wait ∷ Halt ∷ []) full_profile before after
  pub of_some_front : (before after : ℕ) → IsWithinTrace full_profile (empty 3) (hex "FE FF") before after
      → (commands : List Command) × BeginWith (hex "FE FF") commands
      × IsWithinWorkOfRun (empty 3) commands full_profile before after
  pub of_a_run : (files : Files) (before after : ℕ) → AreWorkedFiles files → IsRowWithin
      (run Full (Some (codes "nothing.mdl")) (Some (codes "post.mdl")) (codes "build.nbt")) (Some files) before after
      → IsWithinTrace full_profile (empty 3) (hex "14 10 73 14 0E FF") before after
  pub of_a_light_run : (files : Files) (before after : ℕ) → AreWorkedFiles files
      → IsRowWithin (run Light None (Some (codes "post.mdl")) (codes "build.nbt")) (Some files) before after
      → IsWithinTrace light_profile (empty 3) (hex "14 10 73 14 0E FF") before after
  -- nothing is stated for a command that runs no trace
  pub of_another_row :
      (told : Option Files) (before after : ℕ) → IsRowWithin (check (codes "post.mdl")) told before after
