-- A decoder's state, its answer to a piece, and its next state.
use Rattle.std.specs.Prelude.{◌≡◌, ◌≢◌, ℕ, ◌+◌, ◌≤◌, Bool, true, false, IsTrue, IsFalse, ◌⊎◌, List, [], ◌++◌, length, take, Result, Ok, Err}
use Rattle.nano_spec.specs.declared.commands.Command.{Command}
use Rattle.nano_spec.specs.Command.{IsCommand}
use Rattle.nano_spec.specs.Cutting.{AreCommands, BeginsSpelling}
use Rattle.nano_spec.specs.Spelling.{spelling, spellings}
use Rattle.trace_codec.specs.declared.decoder.Fed.{Fed}
use Rattle.trace_codec.specs.declared.decoder.Fed.TheVariants.{Got, All, Bad}
use Rattle.trace_codec.specs.declared.fault.TraceRefusal.{TraceRefusal}
use Rattle.trace_codec.specs.declared.fault.TraceRefusal.TheVariants as refusal
use Rattle.trace_codec.specs.One.{IsNoCommand}

-- the view of a decoder in contracts: the bytes that it holds of the next command, the offset of the first of them in the
-- trace, and whether it has failed
pub record DecoderState : Type 0 where
  pub held : List ℕ
  pub offset : ℕ
  pub failed : Bool

-- a decoder that has taken nothing
abbrev pub fresh : DecoderState
fresh = record { held = []; offset = 0; failed = false }

-- nothing is held, and no command was refused
abbrev pub IsBetween : DecoderState → Type 0
IsBetween decoder = (decoder.held ≡ []) × (decoder.failed ≡ false)

-- the held bytes and the first used ones of the piece spell the command
pub record Completes (decoder : DecoderState) (piece : List ℕ) (command : Command) (used : ℕ) : Type 0 where
  pub works : IsFalse decoder.failed
  pub is_command : IsCommand command
  pub some : 1 ≤ used
  pub within : used ≤ length piece
  pub spelling_is : decoder.held ++ take used piece ≡ spelling command

-- the answer of a decoder to a piece
abbrev pub AnswersPiece : DecoderState → List ℕ → Fed → Type 0
AnswersPiece decoder piece (Got command used) = Completes decoder piece command used
AnswersPiece decoder piece All = IsFalse decoder.failed × BeginsSpelling (decoder.held ++ piece)
AnswersPiece decoder piece (Bad offset) =
    (offset ≡ decoder.offset) × (IsTrue decoder.failed ⊎ IsNoCommand (decoder.held ++ piece))

-- the decoder after that answer
abbrev pub decoder_after : DecoderState → List ℕ → Fed → DecoderState
decoder_after decoder piece (Got command used) =
    record { held = []; offset = decoder.offset + length (spelling command); failed = false }
decoder_after decoder piece All = record { held = decoder.held ++ piece; offset = decoder.offset; failed = false }
decoder_after decoder piece (Bad offset) = record { held = decoder.held; offset = decoder.offset; failed = true }

-- the number of bytes of the piece that a decoder has taken with that answer
abbrev pub bytes_taken : List ℕ → Fed → ℕ
bytes_taken piece (Got command used) = used
bytes_taken piece All = length piece
bytes_taken piece (Bad offset) = 0

-- the answer of a decoder at the end of the bytes
abbrev pub EndsTrace : {A : Type 0} → DecoderState → Result A TraceRefusal → Type 0
EndsTrace decoder (Ok _) = IsFalse decoder.failed × (decoder.held ≡ [])
EndsTrace decoder (Err (refusal.Cut offset)) = IsFalse decoder.failed × (decoder.held ≢ []) × (offset ≡ decoder.offset)
EndsTrace decoder (Err (refusal.Bad offset)) = IsTrue decoder.failed × (offset ≡ decoder.offset)

-- the decoder has taken the bytes and returned the commands: their spellings, followed by the held bytes, are the
-- bytes
pub record HasTaken (bytes : List ℕ) (commands : List Command) (decoder : DecoderState) : Type 0 where
  pub works : IsFalse decoder.failed
  pub are_commands : AreCommands commands
  pub bytes_are : bytes ≡ spellings commands ++ decoder.held
  pub offset_is : decoder.offset ≡ length (spellings commands)
  pub begins : BeginsSpelling decoder.held
