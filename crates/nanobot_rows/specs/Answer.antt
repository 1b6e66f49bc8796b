-- The answer to a command over known files: a status, a line and the files afterwards (docs/FORMATS.md, "Printed lines").
use Rattle.std.specs.Prelude.{codes, ◌≡◌, ◌⊎◌, ℕ, ◌+◌, ℤ, nat_lt, ◌==◌, List, [], length, Option, Some, None, ok_or, Result, Ok, Err, MatchOption, MatchBool, MatchResult, ⊤}
use Rattle.std.specs.Result.{result_map_both}
use Rattle.std.specs.FinMap as finite
use Rattle.vox_geom.specs.declared.coordinate.Coord.{Coord}
use Rattle.nano_spec.specs.declared.commands.Command.{Command}
use Rattle.nano_spec.specs.declared.outcomes.Verdict.{Verdict}
use Rattle.nano_spec.specs.declared.outcomes.Verdict.TheVariants as verdict
use Rattle.nano_spec.specs.declared.system.Profile.{Profile}
use Rattle.nano_spec.specs.Cutting.{Decoding, NoTrace}
use Rattle.nano_spec.specs.Forge.{forged}
use Rattle.nano_spec.specs.Legal.{Legality, NotLegal}
use Rattle.nano_spec.specs.Matrix.{Matrix, empty, full_count}
use Rattle.nano_spec.specs.Model.{model, written}
use Rattle.nano_spec.specs.Printing.{print}
use Rattle.nano_spec.specs.Profile.{full_profile, light_profile}
use Rattle.nano_spec.specs.Reading.{FaultyLine, read}
use Rattle.nano_spec.specs.Spelling.{spellings}
use Rattle.nano_spec.specs.Verdict.{VerdictOf}
use Rattle.vox_depot.specs.Files.{Files, content}
use Rattle.group_planner.specs.Bounds as group
use Rattle.group_planner.specs.Rows.{rows, runs}
use Rattle.low_planner.specs.Supported.{FirstUnsupported}
use Rattle.step_debugger.specs.Session.{DebugLine, opened}
use Rattle.debug_script.specs.Broken.{broken_line}
use Rattle.debug_script.specs.Script.{ScriptSays}
use Rattle.debug_script.specs.Sessions.{Prints}
use Rattle.nanobot_rows.specs.declared.report.Cost.{Cost}
use Rattle.nanobot_rows.specs.declared.report.Who.{Who}
use Rattle.nanobot_rows.specs.declared.report.Who.TheVariants as who
use Rattle.nanobot_rows.specs.declared.status.Status.{Status}
use Rattle.nanobot_rows.specs.declared.status.Status.TheVariants as is
use Rattle.plan_choice.specs.Planners.{IsCrewPlan, IsGroupPlan, IsLayerPlan, IsLowPlan, IsSwarmPlan, IsVoidPlan, PlanFacts, byte_limit}
use Rattle.nanobot_rows.specs.Report.{faulty_text_line}
use Rattle.nanobot_rows.specs.Lines.{accepted_line, exercised_line, forged_line, group_long_line, legal_line, no_model_line, not_legal_line, planned_line, resolutions_line, stored_line, long_line, trace_line, long_line, unsupported_line, words_line}
use Rattle.nanobot_words.specs.declared.planner.Planner.{Planner}
use Rattle.nanobot_words.specs.declared.planner.Planner.TheVariants.{Layer, Group, Crew, Void, Low, Swarm}
use Rattle.nanobot_words.specs.declared.row.Round.{Round}
use Rattle.nanobot_words.specs.declared.row.Round.TheVariants.{Full, Light}
use Rattle.nanobot_words.specs.Rows.{Row, asm, check, debug, dis, exercise, make, plan, run, IsRow, IsInNoRow, MakesPlans}

-- the reply: a status, a line, which is empty if none is printed, and the files afterwards
pub record Reply : Type 0 where
  pub status : Status
  pub line : List ℕ
  pub after : Files

-- the possible answers over files
abbrev pub Answers : Type 1
Answers = Files → Reply → Type 0

-- this status and this line, and the files unchanged
abbrev pub IsReply : Status → List ℕ → Answers
IsReply status line files reply = reply ≡ record { status = status; line = line; after = files }

-- success, with this line, and these bytes as the file of the name
abbrev pub Stores : List ℕ → List ℕ → List ℕ → Answers
Stores line name bytes files reply =
    reply ≡ record { status = is.Done; line = line; after = finite.insert files name bytes }

-- ---- the contents of files

-- the result of reading: a value, or the status and the line that end the call
abbrev pub Found : Type 0 → Type 0
Found A = Result A (Status × List ℕ)

-- the possible results of reading files
abbrev pub Finding : Type 0 → Type 1
Finding A = Files → Found A → Type 0

-- first X is found, and then p of its value; if X ends the call, its end is found
abbrev pub With : {A B : Type 0} → Finding A → (A → Finding B) → Finding B
With {A} X p files found =
    (first : Found A) × X files first × MatchResult first (λ a. p a files found) (λ end. found ≡ Err end)

-- first X is found, and then p of its value is answered; if X ends the call, its end is answered
abbrev pub Upon : {A : Type 0} → Finding A → (A → Answers) → Answers
Upon {A} X p files reply =
    (first : Found A) × X files first
    × MatchResult first (λ a. p a files reply) (λ end. IsReply end.0 end.1 files reply)

-- the value, or with this status the line of the reason for having none
abbrev pub OfResult : {A W : Type 0} → Status → (W → List ℕ) → Result A W → Finding A
OfResult status line said files found = found ≡ result_map_both (λ a. a) (λ why. (status, line why)) said

-- the bytes of a file; if it does not exist, no line is printed
abbrev pub FileOf : List ℕ → Finding (List ℕ)
FileOf name files found = found ≡ ok_or (content files name) (is.Depot, [])

-- the bytes of a file of at most n bytes, otherwise this status and this line
abbrev pub FileUpTo : ℕ → Status → List ℕ → List ℕ → Finding (List ℕ)
FileUpTo limit status line name =
    With (FileOf name)
    (λ bytes _ found. MatchBool (nat_lt limit (length bytes)) (found ≡ Err (status, line)) (found ≡ Ok bytes))

-- ---- models

-- the model, if it is legal
abbrev pub LegalOf : Who → Matrix → Finding Matrix
LegalOf who m files found =
    (why : Option NotLegal) × Legality m why
    × MatchOption why (found ≡ Ok m) (λ w. found ≡ Err (is.Model, not_legal_line who w))

-- the legal model of a file
abbrev pub ModelOf : Who → List ℕ → Finding Matrix
ModelOf who name =
    With (FileOf name) (λ bytes. With (OfResult is.Model (no_model_line who) (model bytes)) (LegalOf who))

-- the models of a source and a target, of the same resolution; `None` has no file, and is the empty model of the
-- other's
abbrev pub ModelsOf : Option (List ℕ) → Option (List ℕ) → Finding (Matrix × Matrix)
ModelsOf None None files found = ⊥
ModelsOf (Some source) None files found =
    With (ModelOf who.Source source) (λ s _ both. both ≡ Ok (s, empty s.resolution)) files found
ModelsOf None (Some target) files found =
    With (ModelOf who.Target target) (λ t _ both. both ≡ Ok (empty t.resolution, t)) files found
ModelsOf (Some source) (Some target) files found =
    With (ModelOf who.Source source) (λ s. With (ModelOf who.Target target) (λ t _ both. MatchBool
    (s.resolution == t.resolution) (both ≡ Ok (s, t))
    (both ≡ Err (is.Model, resolutions_line s.resolution t.resolution)))) files found

-- ---- commands

-- the commands of the bytes of a trace
abbrev pub DecodingOf : List ℕ → Finding (List Command)
DecodingOf bytes files found =
    (decoding : Result (List Command) NoTrace) × Decoding bytes decoding
    × OfResult is.Trace trace_line decoding files found

-- the commands of the trace of a file, if it is not too long
abbrev pub TraceOf : ℕ → List ℕ → Finding (List Command)
TraceOf limit name = With (FileUpTo limit is.Trace (long_line (codes "trace") limit) name) DecodingOf

-- the commands of the text of a file
abbrev pub TextOf : List ℕ → Finding (List Command)
TextOf name =
    With (FileUpTo byte_limit is.Text (long_line (codes "text") byte_limit) name)
    (λ bytes. OfResult is.Text faulty_text_line (read bytes))

-- the maximum length of a script in bytes
abbrev pub script_limit : ℕ
script_limit = 65536

-- the lines of the script of a file over a source of a resolution
abbrev pub ScriptOf : ℕ → List ℕ → Finding (List DebugLine)
ScriptOf r name =
    With (FileUpTo script_limit is.Text (long_line (codes "text") script_limit) name) (λ bytes files found.
    (said : Result (List DebugLine) FaultyLine) × ScriptSays r bytes said
    × OfResult is.Text faulty_text_line said files found)

-- ---- runs

-- the reply to a verdict
abbrev pub TellsVerdict : Verdict → Answers
TellsVerdict (verdict.Accepted energy steps) files reply = IsReply is.Done (accepted_line energy steps) files reply
TellsVerdict (verdict.Refused broken) files reply = IsReply is.Broken (broken_line broken) files reply

-- the verdict of the commands
abbrev pub OfRun : Profile → Matrix → Matrix → List Command → Answers
OfRun profile source target commands files reply =
    (verdict : Verdict) × VerdictOf source target commands profile verdict × TellsVerdict verdict files reply

-- ---- plans

-- the facts of a planner's plans
abbrev pub facts_of : Planner → PlanFacts
facts_of Layer = IsLayerPlan
facts_of Group = IsGroupPlan
facts_of Crew = IsCrewPlan
facts_of Void = IsVoidPlan
facts_of Low = IsLowPlan
facts_of Swarm = IsSwarmPlan

-- the planner can make a plan: a group plan may be too long, by the runs and rows of both models, and a part of a low
-- plan's target may be unsupported
abbrev pub CanPlan : Planner → Matrix → Matrix → Finding ⊤
CanPlan Group source target files found =
    MatchBool (nat_lt byte_limit (group.most_bytes source target))
    (found ≡ Err (is.Model, group_long_line (runs source + runs target) (rows source + rows target))) (found ≡ Ok tt)
CanPlan Low source target files found =
    (at : Option Coord) × FirstUnsupported target at
    × MatchOption at (found ≡ Ok tt) (λ c. found ≡ Err (is.Unsupported, unsupported_line c))
CanPlan planner source target files found = found ≡ Ok tt

-- a plan with these facts is stored as a trace of the name, and reported with its numbers; which one is free
abbrev pub StoresPlan : PlanFacts → List ℕ → Matrix → Matrix → Answers
StoresPlan Is name source target files reply =
    (commands : List Command) × (energy : ℤ) × (steps : ℕ) × Is source target commands energy steps × Stores
    (planned_line energy steps (length commands) (length (spellings commands))) name (spellings commands) files reply

-- a plan with these facts makes the target from the empty model at this cost
abbrev pub Costs : PlanFacts → Matrix → Cost → Type 0
Costs Is target cost = (commands : List Command) × Is (empty target.resolution) target commands cost.energy cost.steps

-- the costs of plans of both planners that make a forged model from nothing; which ones are judged is free
abbrev pub OfExercise : ℕ → ℕ → Matrix → Answers
OfExercise number resolution target files reply =
    (layer : Cost) × (group : Cost) × Costs IsLayerPlan target layer × Costs IsGroupPlan target group
    × IsReply is.Done (exercised_line number resolution (full_count target) layer group) files reply

-- ---- sessions

-- the lines of a session over the commands from the source on
abbrev pub OfSession : Matrix → List Command → List DebugLine → Answers
OfSession source commands script files reply =
    (text : List ℕ) × Prints commands script (opened source full_profile) text × IsReply is.Done text files reply

-- ---- the rows

-- the maximum length of a trace to print, in bytes
abbrev pub dis_limit : ℕ
dis_limit = 50000000

-- the verdict of the trace of a file between the models of a source and a target, by a profile
abbrev pub AnswerOfRun : Profile → Option (List ℕ) → Option (List ℕ) → List ℕ → Answers
AnswerOfRun profile source target trace =
    Upon (ModelsOf source target) (λ models. Upon (TraceOf byte_limit trace) (OfRun profile models.0 models.1))

-- the profile of a round
abbrev pub profile_of : Round → Profile
profile_of Full = full_profile
profile_of Light = light_profile

-- the answer to a command: its inputs are read in the order of its arguments
abbrev pub AnswerOf : Row → Answers
AnswerOf (check name) = Upon (ModelOf who.Model name) (λ m. IsReply is.Done (legal_line m.resolution (full_count m)))
AnswerOf (run round source target trace) = AnswerOfRun (profile_of round) source target trace
AnswerOf (asm text trace) = Upon (TextOf text) (λ commands.
    Stores (stored_line (length commands) (length (spellings commands))) trace (spellings commands))
AnswerOf (dis trace text) = Upon (TraceOf dis_limit trace) (λ commands.
    Stores (stored_line (length commands) (length (print commands))) text (print commands))
AnswerOf (make number resolution name) = Stores (forged_line resolution (full_count (forged number resolution))) name
    (written (forged number resolution))
AnswerOf (plan planner source target trace) = Upon (ModelsOf source target) (λ models.
    Upon (CanPlan planner models.0 models.1) (λ _. StoresPlan (facts_of planner) trace models.0 models.1))
AnswerOf (exercise number resolution) = OfExercise number resolution (forged number resolution)
AnswerOf (debug source trace script) =
    Upon (ModelOf who.Source source) (λ m.
    Upon (TraceOf dis_limit trace) (λ commands.
    Upon (ScriptOf m.resolution script) (OfSession m commands)))

-- the arguments request no plans
abbrev pub AskNoPlan : List (List ℕ) → Type 0
AskNoPlan words = (row : Row) → IsRow words row → MakesPlans row → ⊥

-- the answer to the arguments
abbrev pub Answer : List (List ℕ) → Answers
Answer words files reply =
    (IsInNoRow words × IsReply is.Words words_line files reply)
    ⊎ ((row : Row) × IsRow words row × AnswerOf row files reply)
