-- A run whose trace comes in pieces.
use Rattle.std.proofs.Common.{◌≡◌, ℕ, ◌≤◌, refl, sym, ap, subst, arith, List, [], ◌∷◌, ◌++◌, Bool, true, false, length, take, append_assoc, append-nil, length-append}
use Rattle.std.specs.Prelude.{Ok, Err, MatchBool, IsFalse}
use Rattle.std.proofs.lemmas.List.{length-take}
use Rattle.nano_spec.specs.declared.commands.Command.{Command}
use Rattle.nano_spec.specs.declared.outcomes.Verdict.{Verdict}
use Rattle.nano_spec.specs.declared.system.Profile.{Profile}
use Rattle.nano_spec.specs.Cutting.{BadAt, CutAt, Decoding}
use Rattle.nano_spec.specs.Matrix.{Matrix}
use Rattle.nano_spec.specs.Spelling.{spelling}
use Rattle.nano_spec.specs.Verdict.{VerdictOf}
use Rattle.run_progress.specs.Progress.{Comes, Finishes, Progress, Pushes, begun, first, later}
use Rattle.trace_judge.specs.Course.{Course}
use Rattle.trace_codec.specs.Decoder.{AnswersPiece, DecoderState, EndsTrace, HasTaken, decoder_after, fresh}
use Rattle.trace_codec.specs.Whole.{Decodes}
use Rattle.trace_codec.specs.declared.decoder.Fed.TheVariants.{Got, All, Bad}
use Rattle.trace_codec.specs.declared.fault.TraceFault.TheVariants.{Refused}
use Rattle.trace_codec.specs.declared.fault.TraceRefusal.{TraceRefusal}
use Rattle.trace_codec.specs.declared.fault.TraceRefusal.TheVariants as refusal
use Rattle.vox_depot.specs.Files.{Files}
use Rattle.nanobot_rows.specs.declared.report.Report.{Report}
use Rattle.nanobot_rows.specs.declared.report.Report.TheVariants.{TraceBad, TraceCut}
use Rattle.nanobot_rows.specs.declared.status.Status.TheVariants as is
use Rattle.nanobot_rows.specs.Lines.{trace_line}
use Rattle.nanobot_rows.specs.Reading.{AnswerOfBytes, AreBad, HasRun, RunState, RunStands, reply_of}
use Rattle.nanobot_rows.proofs.Replies.{tells_verdict, verdict_reply}
use Rattle.nanobot_rows.specs.Report.{of_verdict}

-- ---- pieces

stands_of : (source : Matrix) (profile : Profile) (bytes : List ℕ) (s : RunState) → IsFalse s.decoder.failed
    → HasRun source profile bytes s → RunStands source profile bytes s
stands_of source profile bytes s works run = subst (λ t. MatchBool t (AreBad bytes s.decoder.offset) (RunStands source profile bytes s)) works run

pub started : (source : Matrix) (profile : Profile) (d : DecoderState) (r : Course) → HasTaken [] [] fresh → d ≡ fresh
    → r.progress ≡ begun source profile → HasRun source profile [] (record { decoder = d; run = r })
started source profile d r taken e f =
    subst (λ (x : DecoderState). HasRun source profile [] (record { decoder = x; run = r })) (sym e)
    (record { commands = []; taken = taken; progress_is = first refl f })

-- the decoder's law on a command
abbrev pub GotLaw : Type 0
GotLaw = (bytes piece : List ℕ) (commands : List Command) (decoder : DecoderState) (command : Command) (used : ℕ) →
    HasTaken bytes commands decoder → AnswersPiece decoder piece (Got command used) →
    HasTaken (bytes ++ take used piece) (commands ++ command ∷ []) (decoder_after decoder piece (Got command used))

abbrev pub AllLaw : Type 0
AllLaw = (bytes piece : List ℕ) (commands : List Command) (decoder : DecoderState) →
    HasTaken bytes commands decoder → AnswersPiece decoder piece All → HasTaken (bytes ++ piece) commands (decoder_after decoder piece All)

abbrev pub BadLaw : Type 0
BadLaw = (bytes piece more : List ℕ) (commands : List Command) (decoder : DecoderState) (offset : ℕ) →
    HasTaken bytes commands decoder → AnswersPiece decoder piece (Bad offset) → Decoding ((bytes ++ piece) ++ more) (Err (BadAt offset))

module _ (source : Matrix) (profile : Profile) (bytes piece : List ℕ) (s : RunState) (run : HasRun source profile bytes s) where
  pub got_step : (law : GotLaw) (command : Command) (used : ℕ) (r : Course)
      → AnswersPiece s.decoder piece (Got command used) → Pushes s.run.progress command r.progress
      → HasRun source profile (bytes ++ take used piece)
      (record { decoder = decoder_after s.decoder piece (Got command used); run = r })
  got_step law command used r answers pushes =
      let st = stands_of source profile bytes s answers.works run in
      record {
        commands = st.commands ++ command ∷ [];
        taken = law bytes piece st.commands s.decoder command used st.taken answers;
        progress_is = later st.commands s.run.progress command st.progress_is pushes refl;
      }

  pub all_step : (law : AllLaw) → AnswersPiece s.decoder piece All
      → HasRun source profile (bytes ++ piece) (record { decoder = decoder_after s.decoder piece All; run = s.run })
  all_step law answers =
      let st = stands_of source profile bytes s answers.0 run in
      record {
        commands = st.commands;
        taken = law bytes piece st.commands s.decoder st.taken answers;
        progress_is = st.progress_is;
      }

  pub bad_step : (law : BadLaw) (offset : ℕ) → AnswersPiece s.decoder piece (Bad offset)
      → HasRun source profile (bytes ++ piece)
      (record { decoder = decoder_after s.decoder piece (Bad offset); run = s.run })
  bad_step law offset answers = by s.decoder.failed refl run
    where
      by : (t : Bool) → s.decoder.failed ≡ t
          → MatchBool t (AreBad bytes s.decoder.offset) (RunStands source profile bytes s)
          → AreBad (bytes ++ piece) s.decoder.offset
      by true f bad = λ more. subst (λ (b : List ℕ). Decoding b (Err (BadAt s.decoder.offset))) (sym (append_assoc bytes piece more)) (bad (piece ++ more))
      by false f st = λ more. subst (λ (n : ℕ). Decoding ((bytes ++ piece) ++ more) (Err (BadAt n))) answers.0 (law bytes piece more st.commands s.decoder offset st.taken answers)

-- a command that was got has a spelling of one byte at least
pub longer : (d : DecoderState) (piece : List ℕ) (command : Command) (used : ℕ)
    → AnswersPiece d piece (Got command used) → 1 ≤ length (spelling command)
longer d piece command used a =
    let length_is = ap length a.spelling_is in
    let joined_length = length-append d.held (take used piece) in
    let length_taken = length-take used piece in
    omega (arith, length_is, joined_length, length_taken, a.some, a.within)

-- ---- the end

abbrev pub WholeLaw : Type 0
WholeLaw = (bytes : List ℕ) (commands : List Command) (decoder : DecoderState) → HasTaken bytes commands decoder → EndsTrace {A = Unit {0}} decoder (Ok tt) → Decodes bytes (Ok commands)

abbrev pub CutLaw : Type 0
CutLaw = (bytes : List ℕ) (commands : List Command) (decoder : DecoderState) (refusal : TraceRefusal) → HasTaken bytes commands decoder → EndsTrace {A = Unit {0}} decoder (Err refusal) → Decodes bytes (Err (Refused refusal))

module _ (source target : Matrix) (profile : Profile) (bytes : List ℕ) (s : RunState) (run : HasRun source profile bytes s) (files : Files) where
  abbrev IsTold : Report → Type 0
  IsTold report = AnswerOfBytes profile source target bytes files (reply_of files report)

  pub ends_bad : (offset : ℕ) → EndsTrace {A = Unit {0}} s.decoder (Err (refusal.Bad offset)) → IsTold (TraceBad offset)
  ends_bad offset ends =
      let bad = subst (λ t. MatchBool t (AreBad bytes s.decoder.offset) (RunStands source profile bytes s)) ends.0 run in
      let decoding : Decoding bytes (Err (BadAt offset)) = subst (λ (n : ℕ). Decoding bytes (Err (BadAt n))) (sym ends.1) (subst (λ (b : List ℕ). Decoding b (Err (BadAt s.decoder.offset))) (append-nil bytes) (bad [])) in
      (Err (is.Trace, trace_line (BadAt offset)), (Err (BadAt offset), decoding, refl), refl)

  pub ends_cut : (law : CutLaw) (offset : ℕ) → EndsTrace {A = Unit {0}} s.decoder (Err (refusal.Cut offset))
      → IsTold (TraceCut offset)
  ends_cut law offset ends =
      let st = stands_of source profile bytes s ends.0 run in
      (Err (is.Trace, trace_line (CutAt offset)), (Err (CutAt offset), law bytes st.commands s.decoder (refusal.Cut offset) st.taken ends, refl), refl)

  pub ends_run : (law : WholeLaw) (verdicts : (commands : List Command) (p : Progress) (v : Verdict)
      → Comes source profile commands p → Finishes target p v → VerdictOf source target commands profile v)
      (v : Verdict) → EndsTrace {A = Unit {0}} s.decoder (Ok tt) → Finishes target s.run.progress v
      → IsTold (of_verdict v)
  ends_run law verdicts v ends f =
      let st = stands_of source profile bytes s ends.0 run in
      (Ok st.commands, (Ok st.commands, law bytes st.commands s.decoder st.taken ends, refl), (v, verdicts st.commands s.run.progress v st.progress_is f, tells_verdict files v (verdict_reply files v) refl))
