-- The result of a call: a row's answer over the files of the caller's bytes, copied out.
use Rattle.std.specs.Prelude.{◌≡◌, ◌⊎◌, ℕ, ℤ, List, [], Option, Some, None, Result, Ok, Err, option_map}
use Rattle.vox_depot.specs.Files.{Files, content}
use Rattle.nanobot_rows.specs.declared.effect.NewFile.{NewFile}
use Rattle.nanobot_rows.specs.declared.report.Report.TheVariants.{Accepted}
use Rattle.nanobot_rows.specs.declared.status.Status.{Status}
use Rattle.nanobot_rows.specs.declared.status.Status.TheVariants as is
use Rattle.nanobot_rows.specs.Answer.{AnswerOf, Reply}
use Rattle.nanobot_rows.specs.Reading.{reply_of}
use Rattle.nanobot_rows.specs.Lines.{accepted_line}
use Rattle.nanobot_rows.specs.Report.{code_of}
use Rattle.nanobot_app.specs.Headline.{MachineTakes}
use Rattle.nanobot_words.specs.declared.planner.Planner.{Planner}
use Rattle.nanobot_words.specs.Rows.{HasName, Row, plan, stores_of}
use Rattle.nanobot_c.specs.Given.{Gave, GaveNoRow, IsDone, IsMemory, file_or_line}
use Rattle.nanobot_c.specs.Lent.{lent, plan_name, source_side, target_name, target_side, trace_name}

-- one of the two models has bytes
abbrev pub HasModel : List ℕ → List ℕ → Type 0
HasModel source target = HasName (source_side source) (target_side target)

-- neither has
abbrev pub HasNoModel : List ℕ → List ℕ → Type 0
HasNoModel source target = (source ≡ []) × (target ≡ [])

-- the bytes of a new file, if there is one
abbrev pub bytes_in : Option NewFile → Option (List ℕ)
bytes_in file = option_map (λ f. f.bytes.items) file

-- the file of this name after the reply
abbrev pub stored_in : Option (List ℕ) → Reply → Option (List ℕ)
stored_in None reply = None
stored_in (Some name) reply = content reply.after name

-- the file that the row stores, or its line if there is none, was copied with its status
abbrev pub GaveReply : Row → Reply → List ℕ → List ℕ → ℕ → ℕ → Type 0
GaveReply row reply old new size result =
    Gave (code_of reply.status) (file_or_line (stored_in (stores_of row) reply) reply.line) old new size result

-- the answer of the row was copied; or allocation failed, and nothing was copied
pub record Gives (row : Row) (files : Files) (old new : List ℕ) (size result : ℕ) : Type 0 where
  pub answer : (IsMemory result → ⊥)
      → (reply : Reply) × AnswerOf row files reply × GaveReply row reply old new size result
  pub memory : IsMemory result → (new ≡ old) × (size ≡ 0)

-- an answer of the row: its line was copied with its status
abbrev pub GaveLineOf : Row → Files → List ℕ → List ℕ → ℕ → ℕ → Type 0
GaveLineOf row files old new size result =
    (reply : Reply) × AnswerOf row files reply × Gave (code_of reply.status) reply.line old new size result

-- an answer of the row: the file of this name that it stores, or its line if there is none, was copied with its status
abbrev pub GaveFileOf : List ℕ → Row → Files → List ℕ → List ℕ → ℕ → ℕ → Type 0
GaveFileOf name row files old new size result = (reply : Reply) × AnswerOf row files reply
    × Gave (code_of reply.status) (file_or_line (content reply.after name) reply.line) old new size result

-- an answer of the row: the trace that it stores, or its line if there is none, was copied with its status
abbrev pub GavePlanOf : Row → Files → List ℕ → List ℕ → ℕ → ℕ → Type 0
GavePlanOf row files old new size result = GaveFileOf plan_name row files old new size result

-- the answer of a planner between two models, at least one of which has bytes, was copied; or allocation failed, and nothing
-- was copied
pub record GivesPlanBetween (planner : Planner) (source target old new : List ℕ) (size result : ℕ) : Type 0 where
  pub answer : HasModel source target → (IsMemory result → ⊥)
      → GavePlanOf (plan planner (source_side source) (target_side target) plan_name) (lent source target [])
      old new size result
  pub no_model : HasNoModel source target → GaveNoRow old new size result
  pub memory : IsMemory result → (new ≡ old) × (size ≡ 0)

-- the same for a planner that builds a target
pub record GivesPlanOfTarget (planner : Planner) (target old new : List ℕ) (size result : ℕ) : Type 0 where
  pub answer : (IsMemory result → ⊥)
      → GavePlanOf (plan planner None (Some target_name) plan_name) (lent [] target []) old new size result
  pub memory : IsMemory result → (new ≡ old) × (size ≡ 0)

-- the machine of the definitions takes the whole trace from the source to the target, with this energy and step count
abbrev pub TakesAll : List ℕ → List ℕ → List ℕ → ℤ → ℕ → Type 0
TakesAll source target trace energy count =
    MachineTakes (lent source target trace) (source_side source) (target_side target) trace_name energy count

-- the line of an accepted run was copied
abbrev pub GaveDone : ℤ → ℕ → List ℕ → List ℕ → ℕ → ℕ → Type 0
GaveDone energy count old new size result = Gave (code_of is.Done) (accepted_line energy count) old new size result

-- an answer of the row has this status; if it is 0, it is the line of this energy and this number of steps
abbrev pub ToldCostOf : Row → Files → ℤ → ℕ → ℕ → Type 0
ToldCostOf row files energy count result = (reply : Reply) × AnswerOf row files reply × (result ≡ code_of reply.status)
    × (IsDone result → reply ≡ reply_of files (Accepted energy count))

-- the number is not 0, and is that of the status or of out of memory
abbrev pub IsRefused : Status → ℕ → Type 0
IsRefused status number = (IsDone number → ⊥) × (IsMemory number ⊎ (number ≡ code_of status))

-- the cost in an answer of the row, or the number of its status
abbrev pub CostOf : Row → Files → Result (ℤ × ℕ) ℕ → Type 0
CostOf row files (Ok cost) = AnswerOf row files (reply_of files (Accepted cost.0 cost.1))
CostOf row files (Err number) =
    (IsDone number → ⊥)
    × (IsMemory number ⊎ ((reply : Reply) × AnswerOf row files reply × (number ≡ code_of reply.status)))
