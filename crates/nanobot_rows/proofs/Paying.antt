-- The touches of a run, which the work of its trace pays for.
use Rattle.std.proofs.Common.{◌≡◌, ℕ, ◌+◌, ◌*◌, ◌≤◌, refl, sym, ◌∙◌, ap, subst, arith, List, [], ◌∷◌, ◌++◌, append_assoc, append-nil, Bool, true, false, length, length-append, take, drop}
use Rattle.std.specs.Prelude.{Option, Some, None, Ok, MatchBool, IsFalse, IfSome, IsSomeAnd}
use Rattle.std.proofs.lemmas.List.{take-append-drop}
use Rattle.std.proofs.Math.Seq.{take-add}
use Rattle.nano_spec.specs.declared.commands.Command.{Command}
use Rattle.nano_spec.specs.declared.system.Profile.{Profile}
use Rattle.nano_spec.specs.Cutting.{AreCommands}
use Rattle.nano_spec.specs.Legal.{IsLegal}
use Rattle.nano_spec.specs.Matrix.{Matrix, empty}
use Rattle.nanobot_words.specs.Rows.{HasName}
use Rattle.nano_spec.specs.Model.{model, volume}
use Rattle.nano_spec.specs.Spelling.{spelling, spellings}
use Rattle.nano_spec.specs.Work.{Work}
use Rattle.nano_spec.proofs.Traces.{one_spelling}
use Rattle.run_progress.specs.Progress.{Progress, Pushes, begun}
use Rattle.trace_judge.specs.Course.{Course}
use Rattle.trace_judge.specs.Payment.{IsPaid, Touches}
use Rattle.trace_codec.specs.Decoder.{AnswersPiece, DecoderState, HasTaken, decoder_after, fresh}
use Rattle.trace_codec.specs.declared.decoder.Fed.TheVariants.{Got, All, Bad}
use Rattle.vox_depot.specs.Files.{Files, IfTold, IsPiece, content}
use Rattle.vox_depot.proofs.Loading.{from_told}
use Rattle.nanobot_rows.specs.Answer.{ModelsOf, profile_of}
use Rattle.nanobot_words.specs.declared.row.Round.{Round}
use Rattle.nanobot_words.specs.Rows.{run as run_row}
use Rattle.nanobot_rows.specs.Models.{AreModels, IsModelOf}
use Rattle.nanobot_rows.specs.Reading.{RunState}
use Rattle.nanobot_rows.specs.Touching.{AreInFront, BeginWith, HasGiven, HasPaid, IsRowWithin, IsWithinFile}
use Rattle.nanobot_rows.proofs.Running.{AllLaw, GotLaw}
use Rattle.nanobot_rows.proofs.Replies.{models_found}
use Rattle.nanobot_rows.proofs.Tracing.{piece_has}
use Rattle.nano_spec.proofs.Lengths.{spelling_some}

-- ---- the laws of the machine's touches

abbrev pub FirstLaw : Type 0
FirstLaw = (source : Matrix) (profile : Profile) (p : Progress) (start : ℕ) → p ≡ begun source profile → IsPaid source profile [] p start start

abbrev pub PushLaw : Type 0
PushLaw = (source : Matrix) (profile : Profile) (commands : List Command) (p q : Progress) (command : Command) (start before decoder_after : ℕ) → p.state.matrix.resolution ≡ source.resolution → Pushes p command q → Touches p q command before decoder_after → IsPaid source profile commands p start before → IsPaid source profile (commands ++ command ∷ []) q start decoder_after

abbrev pub WholeLaw : Type 0
WholeLaw = (source : Matrix) (profile : Profile) (commands rest : List Command) (p : Progress) (start now n : ℕ) → IsPaid source profile commands p start now → Work source (commands ++ rest) profile n → now ≤ start + 100 * n + volume source.resolution

abbrev pub WorkLaw : Type 0
WorkLaw = (source : Matrix) (commands : List Command) (profile : Profile) → (n : ℕ) × Work source commands profile n

-- ---- the commands returned by a decoder

taken_of : (bytes : List ℕ) (commands : List Command) (d : DecoderState) → IsFalse d.failed → HasGiven bytes commands d
    → HasTaken bytes commands d
taken_of bytes commands d works given = subst (λ t. MatchBool t (BeginWith bytes commands) (HasTaken bytes commands d)) works given

begins_more : (bytes more : List ℕ) (commands : List Command) → BeginWith bytes commands
    → BeginWith (bytes ++ more) commands
begins_more bytes more commands b = record {
  are_commands = b.are_commands;
  rest = b.rest ++ more;
  bytes_are = ap (λ t. t ++ more) b.bytes_are ∙ append_assoc (spellings commands) b.rest more;
}

begins : (bytes : List ℕ) (commands : List Command) (d : DecoderState) → HasGiven bytes commands d
    → BeginWith bytes commands
begins bytes commands d given = by d.failed given
  where
    by : (t : Bool) → MatchBool t (BeginWith bytes commands) (HasTaken bytes commands d) → BeginWith bytes commands
    by true b = b
    by false taken = record { are_commands = taken.are_commands; rest = d.held; bytes_are = taken.bytes_are }

pub paid_at_first : (law : FirstLaw) (source : Matrix) (profile : Profile) (d : DecoderState) (r : Course) (start : ℕ)
    → HasTaken [] [] fresh → d ≡ fresh → r.progress ≡ begun source profile
    → HasPaid source profile [] (record { decoder = d; run = r }) start start
paid_at_first law source profile d r start taken e f = record {
  commands = [];
  given = subst (λ (x : DecoderState). HasGiven [] [] x) (sym e) taken;
  paid = law source profile r.progress start f;
}

module _ (source : Matrix) (profile : Profile) (bytes piece : List ℕ) (s : RunState) (start before : ℕ) (old : HasPaid source profile bytes s start before) where
  pub paid_got : (got : GotLaw) (push : PushLaw) (command : Command) (used : ℕ) (r : Course) (now : ℕ)
      → s.run.progress.state.matrix.resolution ≡ source.resolution → AnswersPiece s.decoder piece (Got command used)
      → Pushes s.run.progress command r.progress → Touches s.run.progress r.progress command before now
      → HasPaid source profile (bytes ++ take used piece)
      (record { decoder = decoder_after s.decoder piece (Got command used); run = r }) start now
  paid_got got push command used r now same answers pushes touches = record {
    commands = old.commands ++ command ∷ [];
    given = got bytes piece old.commands s.decoder command used (taken_of bytes old.commands s.decoder answers.works old.given) answers;
    paid = push source profile old.commands s.run.progress r.progress command start before now same pushes touches old.paid;
  }

  pub paid_all : (all : AllLaw) → AnswersPiece s.decoder piece All → HasPaid source profile (bytes ++ piece)
      (record { decoder = decoder_after s.decoder piece All; run = s.run }) start before
  paid_all all answers = record {
    commands = old.commands;
    given = all bytes piece old.commands s.decoder (taken_of bytes old.commands s.decoder answers.0 old.given) answers;
    paid = old.paid;
  }

  pub paid_bad : (offset : ℕ) → HasPaid source profile (bytes ++ piece)
      (record { decoder = decoder_after s.decoder piece (Bad offset); run = s.run }) start before
  paid_bad offset = record {
    commands = old.commands;
    given = begins_more bytes piece old.commands (begins bytes old.commands s.decoder old.given);
    paid = old.paid;
  }

-- ---- the commands in front of the bytes

-- commands that the bytes begin with begin those of the longest front
goes_on : (given commands : List Command) (tail rest : List ℕ) → AreCommands given → AreCommands commands
    → spellings commands ++ rest ≡ spellings given ++ tail → length rest ≤ length tail
    → (more : List Command) × (commands ≡ given ++ more)
goes_on [] commands tail rest g h e l = (commands, refl)
goes_on (c ∷ given) [] tail rest g h e l =
    let same_length : length rest ≡ length ((spelling c ++ spellings given) ++ tail) = ap length e in
    let length_is = length-append (spelling c ++ spellings given) tail in
    let joined_length = length-append (spelling c) (spellings given) in
    let some_spelling = spelling_some c in
    absurd (omega (arith, same_length, length_is, joined_length, some_spelling, l))
goes_on (c ∷ given) (d ∷ commands) tail rest g h e l =
    let same_spelling = one_spelling d c (spellings commands ++ rest) (spellings given ++ tail) h.0 g.0 (sym (append_assoc (spelling d) (spellings commands) rest) ∙ (e ∙ append_assoc (spelling c) (spellings given) tail)) in
    let goes = goes_on given commands tail rest g.1 h.1 same_spelling.1 l in
    (goes.0, (λ i. same_spelling.0 i ∷ goes.1 i))

-- the touches for the returned commands
within : (law : WholeLaw) (source : Matrix) (profile : Profile) (bytes : List ℕ) (given : List Command) (p : Progress)
    (start now : ℕ) → BeginWith bytes given → IsPaid source profile given p start now → (commands : List Command)
    (n : ℕ) → AreInFront bytes commands → Work source commands profile n
    → now ≤ start + 100 * n + volume source.resolution
within law source profile bytes given p start now b paid commands n front work =
    let goes = goes_on given commands b.rest front.0.rest b.are_commands front.0.are_commands (sym front.0.bytes_are ∙ b.bytes_are) (front.1.1 b.rest (given, b.are_commands, b.bytes_are)) in
    law source profile given goes.0 p start now n paid (subst (λ (xs : List Command). Work source xs profile n) goes.1 work)

-- ---- a trace that is fetched piece by piece

-- if the file is known, the touches for its first bytes are paid for
pub record IsPaying (told : Option Files) (name : List ℕ) (source : Matrix) (profile : Profile) (at : ℕ) (run : RunState) (start now : ℕ) : Type 0 where
  pub front : (files : Files) (file : List ℕ) → told ≡ Some files → content files name ≡ Some file
      → (at ≤ length file) × HasPaid source profile (take at file) run start now

pub paying : (told : Option Files) (name : List ℕ) (source : Matrix) (profile : Profile) (run : RunState) (start : ℕ)
    → HasPaid source profile [] run start start → IsPaying told name source profile 0 run start start
paying told name source profile run start h = record { front = λ files file t c. (omega arith, subst (λ (b : List ℕ). HasPaid source profile b run start start) (sym (take_none file)) h) }
  where
    take_none : (xs : List ℕ) → take 0 xs ≡ []
    take_none [] = refl
    take_none (x ∷ xs) = refl

module _ (told : Option Files) (name : List ℕ) (source : Matrix) (profile : Profile) (at : ℕ) (run : RunState) (start now : ℕ) (so_far : IsPaying told name source profile at run start now) where
  -- a piece was fed
  pub paying_next : (n : ℕ) (buf : List ℕ) (next : RunState) (later : ℕ)
      → IfTold told name (λ file. IsPiece file at n buf) → n ≤ length buf → ((bytes : List ℕ)
      → HasPaid source profile bytes run start now → HasPaid source profile (bytes ++ take n buf) next start later)
      → IsPaying told name source profile (at + n) next start later
  paying_next n buf next later piece fits fed = record {
    front = λ files file t c.
        let is_piece : IsPiece file at n buf = from_told told name _ piece files file t c in
        let old = so_far.front files file t c in
        let joined : take at file ++ take n buf ≡ take (at + n) file = ap (λ b. take at file ++ b) is_piece.same ∙ sym (take-add at n file) in
        (piece_has file buf at n fits is_piece old.0, subst (λ (b : List ℕ). HasPaid source profile b next start later) joined (fed (take at file) old.1));
  }

  -- the run ends here, after few touches more
  pub paying_within : (law : WholeLaw) (works : WorkLaw) (first last : ℕ)
      → start ≤ first + 91 * volume source.resolution → last ≤ now + 2 * volume source.resolution
      → IsWithinFile profile source told name first last
  paying_within law works first last few more = λ files file t c.
      let old = so_far.front files file t c in
      let begin_with : BeginWith file old.1.commands = subst (λ (b : List ℕ). BeginWith b old.1.commands) (take-append-drop at file) (begins_more (take at file) (drop at file) old.1.commands (begins (take at file) old.1.commands run.decoder old.1.given)) in
      record {
        longest = λ commands front.
            let works_here = works source commands profile in
            let within_here = within law source profile file old.1.commands run.run.progress start now begin_with old.1.paid commands works_here.0 front works_here.1 in
            (works_here.0, works_here.1, omega (arith, within_here, few, more));
        given =
            let works_here = works source (old.1.commands ++ []) profile in
            let same : old.1.commands ++ [] ≡ old.1.commands = append-nil old.1.commands in
            let law_here = law source profile old.1.commands [] run.run.progress start now works_here.0 old.1.paid works_here.1 in
            (old.1.commands, begin_with, (works_here.0, subst (λ (xs : List Command). Work source xs profile works_here.0) same works_here.1, omega (arith, law_here, few, more)));
      }

-- ---- the files of a run

model_once : (files : Files) (name : List ℕ) (m n : Matrix) → IsModelOf files name m → IsModelOf files name n → m ≡ n
model_once files name m n h k = by (content files name) h k
  where
    by : (o : Option (List ℕ)) → IsSomeAnd o (λ bytes. (model bytes ≡ Ok m) × IsLegal m)
        → IsSomeAnd o (λ bytes. (model bytes ≡ Ok n) × IsLegal n) → m ≡ n
    by None h k = absurd h
    by (Some bytes) h k = let a = h.0 in let b = k.0 in cc

-- there is only one source, if the source or the target has a file
models_once : (files : Files) (source target : Option (List ℕ)) (s t u v : Matrix) → HasName source target
    → AreModels source target files s t → AreModels source target files u v → s ≡ u
models_once files (Some name) target s t u v named h k = model_once files name s u h.source_is k.source_is
models_once files None (Some name) s t u v named h k =
    h.source_is ∙ (ap (λ (m : Matrix). empty m.resolution) (model_once files name t v h.target_is k.target_is) ∙ sym k.source_is)
models_once files None None s t u v named h k = absurd named

told_is : (told : Option Files) (P : Files → Type 0) (files : Files) → told ≡ Some files → IfSome told P → P files
told_is told P files e h = subst (λ (o : Option Files). IfSome o P) e h

module _ (round : Round) (told : Option Files) (source target : Option (List ℕ)) (trace : List ℕ) where
  pub run_within : HasName source target → (s t : Matrix) (later : Option Files) (before now : ℕ)
      → IfSome told (λ files. ModelsOf source target files (Ok (s, t))) → later ≡ told
      → IsWithinFile (profile_of round) s later trace before now
      → IsRowWithin (run_row round source target trace) told before now
  run_within named s t later before now found same w = λ files from to e these.
      let here : IsWithinFile (profile_of round) s told trace before now = subst (λ (o : Option Files). IsWithinFile (profile_of round) s o trace before now) same w in
      subst (λ (m : Matrix). IsWithinFile (profile_of round) m told trace before now) (models_once files source target s t from to named (models_found files source target s t (told_is told (λ files. ModelsOf source target files (Ok (s, t))) files e found)) these) here

  pub run_untouched : (works : WorkLaw) (before now : ℕ) → now ≡ before
      → IsRowWithin (run_row round source target trace) told before now
  run_untouched works before now same = λ files from to e these others bytes t c.
      let works_here = works from [] (profile_of round) in
      record {
        longest = λ commands front. let works_here_too = works from commands (profile_of round) in (works_here_too.0, works_here_too.1, omega (arith, same));
        given = ([], record { are_commands = tt; rest = bytes; bytes_are = refl }, (works_here.0, works_here.1, omega (arith, same)));
      }
