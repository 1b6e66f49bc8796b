-- The bound on a run's touches of voxels (this project's own: docs/FORMATS.md, "Levels and work").
use Rattle.std.specs.Prelude.{◌≡◌, ℕ, List, ◌++◌, Option, Some, MatchBool, ⊤}
use Rattle.nano_spec.specs.declared.commands.Command.{Command}
use Rattle.nano_spec.specs.declared.system.Profile.{Profile}
use Rattle.nano_spec.specs.Cutting.{AreCommands, RestOf}
use Rattle.nano_spec.specs.Matrix.{Matrix}
use Rattle.nano_spec.specs.Spelling.{spellings}
use Rattle.trace_judge.specs.Payment.{IsPaid, IsWithinWorkOfRun}
use Rattle.trace_codec.specs.Decoder.{DecoderState, HasTaken}
use Rattle.vox_depot.specs.Files.{Files, content}
use Rattle.nanobot_rows.specs.Answer.{profile_of}
use Rattle.nanobot_rows.specs.Models.{AreModels}
use Rattle.nanobot_rows.specs.Reading.{RunState}
use Rattle.nanobot_words.specs.Rows.{Row, run}

-- ---- the bound

-- the bytes begin with the spellings of the commands
pub record BeginWith (bytes : List ℕ) (commands : List Command) : Type 0 where
  pub are_commands : AreCommands commands
  pub rest : List ℕ
  pub bytes_are : bytes ≡ spellings commands ++ rest

-- the commands are those of the longest prefix of the bytes that is a join of spellings
abbrev pub AreInFront : List ℕ → List Command → Type 0
AreInFront bytes commands = (front : BeginWith bytes commands) × RestOf bytes front.rest

-- from before to after there are at most a hundred touches for each voxel of the source and for each unit of a work: of
-- that of the longest such prefix of the trace, and of that of commands that the trace begins with
pub record IsWithinTrace (profile : Profile) (source : Matrix) (bytes : List ℕ) (before after : ℕ) : Type 0 where
  pub longest : (commands : List Command) → AreInFront bytes commands
      → IsWithinWorkOfRun source commands profile before after
  pub given :
      (commands : List Command) × BeginWith bytes commands × IsWithinWorkOfRun source commands profile before after

-- the same if the files are known, and the trace is one of them
abbrev pub IsWithinFile : Profile → Matrix → Option Files → List ℕ → ℕ → ℕ → Type 0
IsWithinFile profile source told trace before after =
    (files : Files) (bytes : List ℕ) → told ≡ Some files → content files trace ≡ Some bytes
    → IsWithinTrace profile source bytes before after

-- the same of the source of a command that runs a trace, if both its models are legal
abbrev pub IsRowWithin : Row → Option Files → ℕ → ℕ → Type 0
IsRowWithin (run round source target trace) told before after = (files : Files) (from to : Matrix) → told ≡ Some files
    → AreModels source target files from to → IsWithinFile (profile_of round) from told trace before after
IsRowWithin row told before after = ⊤

-- ---- a trace that comes in pieces

-- the commands that a decoder has returned of the bytes
abbrev pub HasGiven : List ℕ → List Command → DecoderState → Type 0
HasGiven bytes commands decoder = MatchBool decoder.failed (BeginWith bytes commands) (HasTaken bytes commands decoder)

-- the touches from start to now are paid for by the work of the returned commands, with any that follow
pub record HasPaid (source : Matrix) (profile : Profile) (bytes : List ℕ) (s : RunState) (start now : ℕ) : Type 0 where
  pub commands : List Command
  pub given : HasGiven bytes commands s.decoder
  pub paid : IsPaid source profile commands s.run.progress start now
