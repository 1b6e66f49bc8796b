-- The outcome of a command: a report, and the file to store before it is printed.
use Rattle.std.specs.FinMap as finite
use Rattle.std.specs.Prelude.{◌≡◌, ℕ, ℤ, List, length, Option, Some, None, IfSome, IsSomeAnd, Result, Ok, Err, ⊤}
use Rattle.nano_spec.specs.declared.commands.Command.{Command}
use Rattle.nano_spec.specs.Cutting.{AreCommands}
use Rattle.nano_spec.specs.Spelling.{spellings}
use Rattle.vox_depot.specs.Files.{Files, others, stored}
use Rattle.nanobot_rows.specs.declared.effect.Effect.{Effect}
use Rattle.nanobot_rows.specs.declared.effect.Message.{Message}
use Rattle.nanobot_rows.specs.declared.effect.Message.TheVariants as message
use Rattle.nanobot_rows.specs.declared.effect.NewFile.{NewFile}
use Rattle.nanobot_rows.specs.declared.report.Report.{Report}
use Rattle.nanobot_rows.specs.declared.report.Report.TheVariants.{Planned}
use Rattle.nanobot_rows.specs.declared.status.Status.{Status}
use Rattle.nanobot_rows.specs.declared.status.Status.TheVariants as is
use Rattle.nanobot_rows.specs.declared.stop.Stop.{Stop}
use Rattle.nanobot_rows.specs.Answer.{Answers, Reply}
use Rattle.nanobot_rows.specs.Reading.{Settles}
use Rattle.nanobot_rows.specs.Report.{report_line, status_of}

-- the status and the bytes of a message: those of a report and its line, or those of the lines of a session
abbrev pub status_by : Message → Status
status_by (message.Line report) = status_of report
status_by (message.Session lines) = is.Done

abbrev pub bytes_by : Message → List ℕ
bytes_by (message.Line report) = report_line report
bytes_by (message.Session lines) = lines.items

-- a report without a file
abbrev pub alone : Result Report Stop → Result Effect Stop
alone (Ok report) = Ok (record { message = message.Line report; file = None })
alone (Err stop) = Err stop

-- the files with the new one
abbrev pub files_with : Files → Option NewFile → Files
files_with files None = files
files_with files (Some file) = finite.insert files file.name.now file.bytes.items

-- the effect as a reply
abbrev pub reply_by : Files → Effect → Reply
reply_by files effect =
    record { status = status_by effect.message; line = bytes_by effect.message; after = files_with files effect.file }

-- the effect stores the spellings of a plan's commands under the name, and reports its numbers
pub record KeepsPlan (name : List ℕ) (commands : List Command) (energy : ℤ) (steps : ℕ) (effect : Effect) : Type 0 where
  pub are_commands : AreCommands commands
  pub told : effect.message ≡ message.Line (Planned energy steps (length commands) (length (spellings commands)))
  pub file : IsSomeAnd effect.file (λ file. (file.name.now ≡ name) × (file.bytes.items ≡ spellings commands))

-- the outcome if a file may be stored
abbrev pub EndsStored : Answers → Option Files → Type 0 → Result Effect Stop → Type 0
EndsStored answers told rose result = Settles reply_by answers told rose result

-- a file that the effect stores has this name, and is stored only if the call succeeds
abbrev pub IsFor : Option (List ℕ) → Effect → Type 0
IsFor name effect = IfSome effect.file (λ file. (name ≡ Some file.name.now) × (status_by effect.message ≡ is.Done))

-- a new file may be stored
abbrev pub MayKeep : (List ℕ → Type 0) → Option NewFile → Type 0
MayKeep may_store None = ⊤
MayKeep may_store (Some file) = may_store file.name.now

-- the files after a new one was stored
abbrev pub told_with : Option Files → Option NewFile → Option Files
told_with told None = told
told_with told (Some file) = stored told file.name.now file.bytes.items

-- a new file was not stored: all others are unchanged
abbrev pub IsUnstored : Option NewFile → Option Files → Option Files → Type 0
IsUnstored None old new = new ≡ old
IsUnstored (Some file) old new = others new file.name.now ≡ others old file.name.now
