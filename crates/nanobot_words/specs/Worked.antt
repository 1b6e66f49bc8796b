-- Worked examples of the table of words: how rows are written, which files they read and store, and which sides
-- planners take (docs/FORMATS.md, "Printed lines").
use Rattle.std.specs.Prelude.{◌≡◌, List, [], ◌∷◌, codes, Some, None, String, string_bytes, ⊤}
use Rattle.nanobot_words.specs.declared.planner.Planner.TheVariants.{Layer, Group, Crew, Void, Low, Swarm}
use Rattle.nanobot_words.specs.declared.row.Round.TheVariants.{Full, Light}
use Rattle.nanobot_words.specs.Rows.{IsInNoRow, IsOfTable, IsRow, IsRunOf, MayRead, MayStore, TakesSides, asm, check, debug, dis, exercise, make, plan, run, reads_of, row_words, stores_of, texts}

-- the words of each row
pub record WorkedWords : Type 0 where
  pub a_check : row_words (check (codes "m")) ≡ codes "check" ∷ codes "m" ∷ []
  pub a_run : row_words (run Full (Some (codes "s")) (Some (codes "t")) (codes "b"))
      ≡ codes "run" ∷ codes "s" ∷ codes "t" ∷ codes "b" ∷ []
  pub a_run_from_nothing :
      row_words (run Full None (Some (codes "t")) (codes "b")) ≡ codes "run" ∷ codes "-" ∷ codes "t" ∷ codes "b" ∷ []
  pub a_light_run_to_nothing : row_words (run Light (Some (codes "s")) None (codes "b"))
      ≡ codes "run" ∷ codes "light" ∷ codes "s" ∷ codes "-" ∷ codes "b" ∷ []
  pub a_text : row_words (asm (codes "x") (codes "b")) ≡ codes "asm" ∷ codes "x" ∷ codes "b" ∷ []
  pub a_trace : row_words (dis (codes "b") (codes "x")) ≡ codes "dis" ∷ codes "b" ∷ codes "x" ∷ []
  pub a_forged_model : row_words (make 7 20 (codes "m")) ≡ codes "make" ∷ codes "7" ∷ codes "20" ∷ codes "m" ∷ []
  pub a_layer_plan : row_words (plan Layer None (Some (codes "t")) (codes "b"))
      ≡ codes "plan" ∷ codes "layer" ∷ codes "-" ∷ codes "t" ∷ codes "b" ∷ []
  pub a_group_plan : row_words (plan Group (Some (codes "s")) None (codes "b"))
      ≡ codes "plan" ∷ codes "group" ∷ codes "s" ∷ codes "-" ∷ codes "b" ∷ []
  pub a_crew_plan : row_words (plan Crew (Some (codes "s")) (Some (codes "t")) (codes "b"))
      ≡ codes "plan" ∷ codes "crew" ∷ codes "s" ∷ codes "t" ∷ codes "b" ∷ []
  pub a_void_plan : row_words (plan Void (Some (codes "s")) None (codes "b"))
      ≡ codes "plan" ∷ codes "void" ∷ codes "s" ∷ codes "-" ∷ codes "b" ∷ []
  pub a_low_plan : row_words (plan Low None (Some (codes "t")) (codes "b"))
      ≡ codes "plan" ∷ codes "low" ∷ codes "-" ∷ codes "t" ∷ codes "b" ∷ []
  pub a_swarm_plan : row_words (plan Swarm None (Some (codes "t")) (codes "b"))
      ≡ codes "plan" ∷ codes "swarm" ∷ codes "-" ∷ codes "t" ∷ codes "b" ∷ []
  pub an_exercise : row_words (exercise 0 400) ≡ codes "exercise" ∷ codes "0" ∷ codes "400" ∷ []
  pub a_session :
      row_words (debug (codes "s") (codes "b") (codes "x")) ≡ codes "debug" ∷ codes "s" ∷ codes "b" ∷ codes "x" ∷ []

-- the files of rows, read in this order, and stored
pub record WorkedFiles : Type 0 where
  pub a_run_reads :
      reads_of (run Full (Some (codes "s")) (Some (codes "t")) (codes "b")) ≡ codes "s" ∷ codes "t" ∷ codes "b" ∷ []
  pub nothing_is_no_file : reads_of (run Light None (Some (codes "t")) (codes "b")) ≡ codes "t" ∷ codes "b" ∷ []
  pub a_session_reads : reads_of (debug (codes "s") (codes "b") (codes "x")) ≡ codes "s" ∷ codes "b" ∷ codes "x" ∷ []
  pub a_plan_reads_its_models :
      reads_of (plan Group (Some (codes "s")) (Some (codes "t")) (codes "b")) ≡ codes "s" ∷ codes "t" ∷ []
  pub a_plan_stores_its_trace :
      stores_of (plan Group (Some (codes "s")) (Some (codes "t")) (codes "b")) ≡ Some (codes "b")
  pub a_text_is_read : reads_of (asm (codes "x") (codes "b")) ≡ codes "x" ∷ []
  pub its_trace_is_stored : stores_of (asm (codes "x") (codes "b")) ≡ Some (codes "b")
  pub a_trace_is_read : reads_of (dis (codes "b") (codes "x")) ≡ codes "b" ∷ []
  pub its_text_is_stored : stores_of (dis (codes "b") (codes "x")) ≡ Some (codes "x")
  pub a_forged_model_is_stored : stores_of (make 7 20 (codes "m")) ≡ Some (codes "m")
  pub a_session_stores_nothing : stores_of (debug (codes "s") (codes "b") (codes "x")) ≡ None

-- the sides that planners accept
pub record WorkedSides : Type 0 where
  pub from_a_source : TakesSides Layer (Some (codes "s")) None
  pub to_a_target : TakesSides Group None (Some (codes "t"))
  pub from_a_source_to_a_target : TakesSides Crew (Some (codes "s")) (Some (codes "t"))
  pub not_from_nothing_to_nothing : TakesSides Crew None None → ⊥
  pub void_from_a_source : TakesSides Void (Some (codes "s")) None
  pub void_to_no_target : TakesSides Void (Some (codes "s")) (Some (codes "t")) → ⊥
  pub void_from_something : TakesSides Void None (Some (codes "t")) → ⊥
  pub low_to_a_target : TakesSides Low None (Some (codes "t"))
  pub low_from_no_source : TakesSides Low (Some (codes "s")) (Some (codes "t")) → ⊥
  pub swarm_to_a_target : TakesSides Swarm None (Some (codes "t"))
  pub swarm_from_no_source : TakesSides Swarm (Some (codes "s")) None → ⊥
  -- the rows of runs and plans have the same sides
  pub a_run_to_nothing : IsOfTable (run Full (Some (codes "s")) None (codes "b"))
  pub a_run_from_nothing : IsOfTable (run Full None (Some (codes "t")) (codes "b"))
  pub a_void_plan : IsOfTable (plan Void (Some (codes "s")) None (codes "b"))

-- the numbers and the resolutions that are forged: below 2 ^ 32, and from 1 to 400
pub record WorkedForged : Type 0 where
  pub the_least : IsOfTable (make 0 1 (codes "m"))
  pub past_the_first_form : IsOfTable (make 0 251 (codes "m"))
  pub the_greatest : IsOfTable (exercise 4294967295 400)
  pub no_resolution : IsOfTable (exercise 0 0) → ⊥
  pub too_great_a_resolution : IsOfTable (make 0 401 (codes "m")) → ⊥
  pub too_great_a_number : IsOfTable (make 4294967296 1 (codes "m")) → ⊥

-- arguments that are in a row of the table, and arguments that are in none
pub record WorkedRows : Type 0 where
  pub a_check : IsRow (codes "check" ∷ codes "m" ∷ []) (check (codes "m"))
  -- `-` names no model that is checked, no trace that is run, and no trace that is stored
  pub no_check_of_nothing : IsRow (codes "check" ∷ codes "-" ∷ []) (check (codes "-")) → ⊥
  pub no_run_of_nothing : IsRow (codes "run" ∷ codes "s" ∷ codes "t" ∷ codes "-" ∷ [])
      (run Full (Some (codes "s")) (Some (codes "t")) (codes "-")) → ⊥
  pub no_plan_as_nothing : IsRow (codes "plan" ∷ codes "crew" ∷ codes "s" ∷ codes "t" ∷ codes "-" ∷ [])
      (plan Crew (Some (codes "s")) (Some (codes "t")) (codes "-")) → ⊥
  pub no_run_from_nothing_to_nothing :
      IsRow (codes "run" ∷ codes "-" ∷ codes "-" ∷ codes "b" ∷ []) (run Full None None (codes "b")) → ⊥
  -- the runs of the headline are those of the full round
  pub a_run : IsRunOf (codes "run" ∷ codes "s" ∷ codes "t" ∷ codes "b" ∷ []) (Some (codes "s")) (Some (codes "t"))
      (codes "b")
  pub a_run_from_nothing :
      IsRunOf (codes "run" ∷ codes "-" ∷ codes "t" ∷ codes "b" ∷ []) None (Some (codes "t")) (codes "b")
  pub a_run_to_nothing :
      IsRunOf (codes "run" ∷ codes "s" ∷ codes "-" ∷ codes "b" ∷ []) (Some (codes "s")) None (codes "b")
  pub no_light_run : IsRunOf (codes "run" ∷ codes "light" ∷ codes "t" ∷ codes "b" ∷ []) None (Some (codes "t"))
      (codes "b") → ⊥
  pub no_source_of_nothing : IsRunOf (codes "run" ∷ codes "-" ∷ codes "t" ∷ codes "b" ∷ []) (Some (codes "-"))
      (Some (codes "t")) (codes "b") → ⊥
  pub no_target_of_nothing : IsRunOf (codes "run" ∷ codes "s" ∷ codes "-" ∷ codes "b" ∷ []) (Some (codes "s"))
      (Some (codes "-")) (codes "b") → ⊥
  pub no_trace_of_nothing : IsRunOf (codes "run" ∷ codes "s" ∷ codes "t" ∷ codes "-" ∷ []) (Some (codes "s"))
      (Some (codes "t")) (codes "-") → ⊥
  pub no_side_of_a_name : IsRunOf (codes "run" ∷ codes "-" ∷ codes "-" ∷ codes "b" ∷ []) None None (codes "b") → ⊥
  -- no arguments, and a check without a model
  pub no_arguments : IsInNoRow []
  pub a_check_of_no_model : IsInNoRow (codes "check" ∷ [])
  pub a_check_is_in_a_row : IsInNoRow (codes "check" ∷ codes "m" ∷ []) → ⊥

-- the files that the arguments let the program read and store
pub record WorkedPermissions : Type 0 where
  pub a_check_reads_its_model : MayRead (λ name. name ≡ codes "m") (codes "check" ∷ codes "m" ∷ [])
  pub it_reads_no_other : MayRead (λ name. name ≡ codes "mm") (codes "check" ∷ codes "m" ∷ []) → ⊥
  pub it_stores_nothing : MayStore (λ name. ⊥) (codes "check" ∷ codes "m" ∷ [])
  pub a_text_stores_its_trace : MayStore (λ name. name ≡ codes "b") (codes "asm" ∷ codes "bb" ∷ codes "b" ∷ [])
  pub it_does_not_store_its_text : MayStore (λ name. name ≡ codes "bb") (codes "asm" ∷ codes "bb" ∷ codes "b" ∷ []) → ⊥
  -- of each argument its bytes
  pub two_texts : (a b : String ⊤) → texts (a ∷ b ∷ []) ≡ string_bytes a ∷ string_bytes b ∷ []
