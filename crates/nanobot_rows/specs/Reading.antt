-- The outcome and the effects of a call that reads, in terms of the answers, and the state of a run of a trace in pieces.
use Rattle.std.specs.Prelude.{◌≡◌, ◌⊎◌, ℕ, ◌≤◌, List, [], ◌++◌, Option, Some, Result, Ok, Err, MatchBool, IfSome, IsSomeAnd, ⊤}
use Rattle.std.specs.Result.{result_map_both}
use Rattle.nano_spec.specs.declared.commands.Command.{Command}
use Rattle.nano_spec.specs.declared.system.Profile.{Profile}
use Rattle.nano_spec.specs.Cutting.{Decoding, BadAt}
use Rattle.nano_spec.specs.Matrix.{Matrix}
use Rattle.model_file.specs.declared.fault.ModelFault.{ModelFault}
use Rattle.model_file.specs.declared.fault.ModelFault.TheVariants as fault
use Rattle.run_progress.specs.Progress.{Comes}
use Rattle.trace_judge.specs.Course.{Course}
use Rattle.trace_codec.specs.Decoder.{DecoderState, HasTaken}
use Rattle.trace_codec.specs.declared.fault.TraceFault.{TraceFault}
use Rattle.trace_codec.specs.declared.fault.TraceFault.TheVariants as trace
use Rattle.trace_codec.specs.declared.fault.TraceRefusal.TheVariants.{Bad, Cut}
use Rattle.trace_text.specs.declared.fault.TextFault.{TextFault}
use Rattle.trace_text.specs.declared.fault.TextFault.TheVariants as text
use Rattle.vox_depot.specs.Files.{Files}
use Rattle.vox_depot.specs.declared.whole.LoadFault.{LoadFault}
use Rattle.vox_depot.specs.declared.whole.LoadFault.TheVariants as load
use Rattle.vox_depot.specs.declared.depot.FetchFault.{FetchFault}
use Rattle.vox_depot.specs.declared.depot.FetchFault.TheVariants as fetch
use Rattle.nanobot_rows.specs.declared.report.Report.{Report}
use Rattle.nanobot_rows.specs.declared.report.Report.TheVariants.{Model, Text, TraceBad, TraceCut}
use Rattle.nanobot_rows.specs.declared.report.Who.{Who}
use Rattle.nanobot_rows.specs.declared.stop.Stop.{Stop}
use Rattle.nanobot_rows.specs.declared.stop.Stop.TheVariants as stop
use Rattle.nanobot_rows.specs.declared.status.Status.{Status}
use Rattle.nanobot_rows.specs.declared.status.Status.TheVariants as is
use Rattle.nanobot_rows.specs.Answer.{Answers, DecodingOf, Finding, Found, OfRun, Reply, Upon}
use Rattle.nanobot_rows.specs.Report.{report_line, status_of}

-- ---- why a call stops

-- a model that was refused, or out of memory
abbrev pub of_fault : Who → ModelFault → Stop
of_fault who (fault.Refused refusal) = stop.Told (Model who refusal)
of_fault who fault.Memory = stop.Memory

-- a file that was not loaded
abbrev pub of_load : LoadFault → Stop
of_load load.Missing = stop.Depot
of_load load.Failed = stop.Depot
of_load load.Memory = stop.Memory

-- a piece that was not fetched
abbrev pub of_fetch : FetchFault → Stop
of_fetch fetch.Missing = stop.Depot
of_fetch fetch.Failed = stop.Depot

-- a text that was refused, or out of memory
abbrev pub of_text : TextFault → Stop
of_text (text.Refused refusal) = stop.Told (Text refusal)
of_text text.Memory = stop.Memory

-- a trace that was refused, or out of memory
abbrev pub of_trace : TraceFault → Stop
of_trace (trace.Refused (Bad offset)) = stop.Told (TraceBad offset)
of_trace (trace.Refused (Cut offset)) = stop.Told (TraceCut offset)
of_trace trace.Memory = stop.Memory

-- ---- reads and invariants

-- a call that only reads: the files and the count of failed stores are unchanged, and the count of faults does not fall
pub record OnlyReads {A : Type 0} (told : A → Option Files) (faults_of stores_of : A → ℕ) (old new : A) : Type 0 where
  pub files : told new ≡ told old
  pub later : faults_of old ≤ faults_of new
  pub stores : stores_of new ≡ stores_of old

-- the files of a source and a target may be fetched, for each that has one
pub record MayFetchSides (may_fetch : List ℕ → Type 0) (from to : Option (List ℕ)) : Type 0 where
  pub source : (name : List ℕ) → from ≡ Some name → may_fetch name
  pub target : (name : List ℕ) → to ≡ Some name → may_fetch name

-- ---- results

-- the end of a call with a report
abbrev pub end_of : Report → Status × List ℕ
end_of report = (status_of report, report_line report)

-- the outcome of a call that reads files: if the files are known, X finds its value there, or the report that ends it. A
-- stop without a report occurs only if the depot failed, if a known file does not exist, or if memory ran out
abbrev pub Finds : {A : Type 0} → Finding A → Option Files → Type 0 → Result A Stop → Type 0
Finds X told rose (Ok a) = IfSome told (λ files. X files (Ok a))
Finds X told rose (Err (stop.Told report)) = IfSome told (λ files. X files (Err (end_of report)))
Finds X told rose (Err stop.Depot) = rose ⊎ IsSomeAnd told (λ files. X files (Err (is.Depot, [])))
Finds X told rose (Err stop.Memory) = ⊤

-- the same, if its value is a view of the call's result
abbrev pub FindsAs : {A V : Type 0} → (V → A) → Finding A → Option Files → Type 0 → Result V Stop → Type 0
FindsAs view X told rose result =
    Finds (λ files found. X files (result_map_both view (λ end. end) found)) told rose result

-- ---- traces

-- a run whose trace arrives in pieces: the decoder, and the state of the run
pub record RunState : Type 0 where
  pub decoder : DecoderState
  pub run : Course

-- whatever follows the bytes, they are refused at the offset
abbrev pub AreBad : List ℕ → ℕ → Type 0
AreBad bytes offset = (more : List ℕ) → Decoding (bytes ++ more) (Err (BadAt offset))

-- the bytes were consumed, and this is the state of the run of their commands
pub record RunStands (source : Matrix) (profile : Profile) (bytes : List ℕ) (s : RunState) : Type 0 where
  pub commands : List Command
  pub taken : HasTaken bytes commands s.decoder
  pub progress_is : Comes source profile commands s.run.progress

abbrev pub HasRun : Matrix → Profile → List ℕ → RunState → Type 0
HasRun source profile bytes s =
    MatchBool s.decoder.failed (AreBad bytes s.decoder.offset) (RunStands source profile bytes s)

-- the verdict of the bytes of a trace that is not too long
abbrev pub AnswerOfBytes : Profile → Matrix → Matrix → List ℕ → Answers
AnswerOfBytes profile source target bytes = Upon (DecodingOf bytes) (OfRun profile source target)

-- ---- answers

-- the report as a reply
abbrev pub reply_of : Files → Report → Reply
reply_of files report = record { status = status_of report; line = report_line report; after = files }

-- a file does not exist
abbrev pub no_such_file : Files → Reply
no_such_file files = record { status = is.Depot; line = []; after = files }

-- the result of reading as a reply: that of the value, or the end of the call, with the files unchanged
abbrev pub reply_to : {A : Type 0} → (Files → A → Reply) → Files → Found A → Reply
reply_to reply files (Ok a) = reply files a
reply_to reply files (Err end) = record { status = end.0; line = end.1; after = files }

-- the outcome if a value is replied so
abbrev pub Settles : {A : Type 0} → (Files → A → Reply) → Answers → Option Files → Type 0 → Result A Stop → Type 0
Settles reply answers told rose result =
    Finds (λ files found. answers files (reply_to reply files found)) told rose result

-- the answer if no file is stored
abbrev pub EndsUnstored : Answers → Option Files → Type 0 → Result Report Stop → Type 0
EndsUnstored answers told rose result = Settles reply_of answers told rose result
