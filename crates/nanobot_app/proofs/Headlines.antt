-- A run answers 0 exactly if the machine of the definitions takes the whole trace.
use Rattle.std.proofs.Common.{◌≡◌, ◌⊎◌, ◌↔◌, ℕ, List, Option, Some, None, refl, sym, ap, ◌∙◌, subst, inl, inr}
use Rattle.std.specs.Prelude.{ℤ, Ok, IfSome, IsSomeAnd}
use Rattle.std.specs.Io.KnownBytes.{append_known}
use Rattle.std.proofs.lemmas.List.{append_cancel_left}
use Rattle.nano_spec.specs.declared.outcomes.Verdict.{Verdict}
use Rattle.nano_spec.specs.declared.outcomes.Verdict.TheVariants as verdict
use Rattle.nano_spec.specs.Matrix.{Matrix}
use Rattle.nano_spec.specs.Profile.{full_profile}
use Rattle.nano_spec.specs.Verdict.{VerdictOf}
use Rattle.vox_depot.specs.Files.{Files, content}
use Rattle.vox_depot.specs.Causes.{Rose}
use Rattle.nanobot_rows.specs.declared.report.Report.TheVariants as report
use Rattle.nanobot_rows.specs.declared.status.Status.{Status}
use Rattle.nanobot_rows.specs.declared.status.Status.TheVariants as is
use Rattle.plan_choice.specs.Planners.{byte_limit}
use Rattle.nanobot_rows.specs.Answer.{Answer, AnswerOf, AnswerOfRun, Answers, AskNoPlan, Found, ModelsOf, OfRun, Reply, TraceOf, Upon}
use Rattle.nanobot_app.specs.Headline.{IsCost, IsDoneWith, MachineTakes, TakesBytes}
use Rattle.nanobot_app.specs.Outcome.{IsAnswer, CallOutcome, Outside}
use Rattle.nanobot_rows.specs.Models.{AreModels}
use Rattle.nanobot_rows.specs.Reading.{reply_of}
use Rattle.nanobot_rows.specs.Lines.{accepted_line}
use Rattle.nanobot_words.specs.declared.row.Round.TheVariants.{Full}
use Rattle.nanobot_words.specs.Rows.{HasName, Row, run, MakesPlans, IsRow, IsRunOf}
use Rattle.nanobot_app.proofs.Finding.{finds_trace, trace_found}
use Rattle.nanobot_app.proofs.Found.{done_says, models_once, trace_once}
use Rattle.nanobot_app.proofs.Determined.{AnswerLaw, RowLaw, StatusLaw, complete}
use Rattle.nanobot_rows.proofs.Replies.{finds_models, models_found, verdict_reply, verdict_told}
use Rattle.nanobot_rows.proofs.Told.{if_some, weaker}

-- ---- the answer of a run that takes its trace

pub answers_taken : (files : Files) (source target : Option (List ℕ)) (trace : List ℕ) (energy : ℤ) (steps : ℕ)
    → MachineTakes files source target trace energy steps
    → AnswerOf (run Full source target trace) files (reply_of files (report.Accepted energy steps))
answers_taken files source target trace energy steps t = by (content files trace) refl t.taken
  where
    by : (o : Option (List ℕ)) → content files trace ≡ o
        → IsSomeAnd o (λ bytes. TakesBytes t.from t.to bytes energy steps)
        → AnswerOf (run Full source target trace) files (reply_of files (report.Accepted energy steps))
    by None e h = absurd h
    by (Some bytes) e h = (
      Ok (t.from, t.to),
      finds_models files source target t.from t.to t.named t.models,
      (Ok h.1.0, finds_trace byte_limit files trace h.1.0 (bytes, e, h.0, h.1.1), (verdict.Accepted energy steps, h.1.2, refl)),
    )

-- ---- answers with status 0

-- of a source and a target that are found one has a file
pub named_of : (files : Files) (source target : Option (List ℕ)) (found : Found (Matrix × Matrix))
    → ModelsOf source target files found → HasName source target
named_of files None None found h = h
named_of files None (Some b) found h = tt
named_of files (Some a) target found h = tt

-- the models of such an answer
pub done_models : (files : Files) (source target : Option (List ℕ)) (p : Matrix × Matrix → Answers) (reply : Reply)
    → reply.status ≡ is.Done → Upon (ModelsOf source target) p files reply
    → (s : Matrix) × (t : Matrix) × AreModels source target files s t × HasName source target × p (s, t) files reply
done_models files source target p reply done h =
    let what_done_says = done_says (ModelsOf source target) p files reply (models_once ⊥ source target (λ never. absurd never)).fine done h in
    (what_done_says.0.0, what_done_says.0.1, models_found files source target what_done_says.0.0 what_done_says.0.1 what_done_says.1, named_of files source target (Ok what_done_says.0) what_done_says.1, what_done_says.2)

-- a verdict that is reported with status 0
accepted : (files : Files) (v : Verdict) (reply : Reply) → reply ≡ verdict_reply files v → reply.status ≡ is.Done
    → (energy : ℤ) × (steps : ℕ) × (v ≡ verdict.Accepted energy steps)
accepted files (verdict.Accepted energy steps) reply e done = (energy, steps, refl)
accepted files (verdict.Refused broken) reply e done = absurd (let no : is.Broken ≡ is.Done = sym (ap (λ (x : Reply). x.status) e) ∙ done in cc)

module _ (files : Files) (source target : Matrix) (reply : Reply) (done : reply.status ≡ is.Done) where
  done_trace : (trace : List ℕ) → Upon (TraceOf byte_limit trace) (OfRun full_profile source target) files reply
      → (energy : ℤ) × (steps : ℕ)
      × IsSomeAnd (content files trace) (λ bytes. TakesBytes source target bytes energy steps)
      × (reply ≡ reply_of files (report.Accepted energy steps))
  done_trace trace h =
      let commands = done_says (TraceOf byte_limit trace) (OfRun full_profile source target) files reply (trace_once ⊥ byte_limit trace).fine done h in
      let file = trace_found byte_limit files trace commands.0 commands.1 in
      let told = verdict_told files commands.2.0 reply commands.2.2 in
      let is_accepted = accepted files commands.2.0 reply told done in (
        is_accepted.0,
        is_accepted.1,
        subst (λ (o : Option (List ℕ)). IsSomeAnd o (λ bytes. TakesBytes source target bytes is_accepted.0 is_accepted.1)) (sym file.1)
            (file.2, (commands.0, file.3, subst (λ (v : Verdict). VerdictOf source target commands.0 full_profile v) is_accepted.2 commands.2.1)),
        told ∙ ap (λ (v : Verdict). verdict_reply files v) is_accepted.2,
      )

pub takes_done : (files : Files) (source target : Option (List ℕ)) (trace : List ℕ) (reply : Reply)
    → reply.status ≡ is.Done → AnswerOf (run Full source target trace) files reply → (energy : ℤ) × (steps : ℕ)
    × MachineTakes files source target trace energy steps × (reply ≡ reply_of files (report.Accepted energy steps))
takes_done files source target trace reply done h =
    let the_models = done_models files source target (λ models. Upon (TraceOf byte_limit trace) (OfRun full_profile models.0 models.1)) reply done h in
    let the_trace = done_trace files the_models.0 the_models.1 reply done trace the_models.4 in
    (the_trace.0, the_trace.1, record { named = the_models.3; from = the_models.0; to = the_models.1; models = the_models.2; taken = the_trace.2 }, the_trace.3)

-- the answer of the command
of_the_row : RowLaw → (words : List (List ℕ)) (row : Row) (files : Files) (reply : Reply) → IsRow words row
    → Answer words files reply → AnswerOf row files reply
of_the_row one words row files reply is_row (inl h) = absurd (h.0 row is_row)
of_the_row one words row files reply is_row (inr h) = subst (λ (r : Row). AnswerOf r files reply) (one words h.0 row h.1 is_row) h.2

-- arguments of a run request no plans
run_is_no_plan : RowLaw → (words : List (List ℕ)) (source target : Option (List ℕ)) (trace : List ℕ)
    → IsRow words (run Full source target trace) → AskNoPlan words
run_is_no_plan one words source target trace is row other plan = subst MakesPlans (one words row (run Full source target trace) other is) plan

-- the row of a run
pub row_of_run : (words : List (List ℕ)) (source target : Option (List ℕ)) (trace : List ℕ)
    → IsRunOf words source target trace → IsRow words (run Full source target trace)
row_of_run words source target trace is = record { written = is.written; named = is.named; of_table = is.of_table }

-- ---- both halves of the headline

abbrev pub SmallLaw : Type 0
SmallLaw = (files : Files) (source target : Option (List ℕ)) (trace : List ℕ) (energy : ℤ) (steps : ℕ) → MachineTakes files source target trace energy steps → IsCost energy steps

abbrev pub ApartLaw : Type 0
ApartLaw = (energy energy' : ℤ) (steps steps' : ℕ) → IsCost energy steps → IsCost energy' steps' → accepted_line energy steps ≡ accepted_line energy' steps' → (energy ≡ energy') × (steps ≡ steps')

module _ {stores : List ℕ → Type 0} (one : RowLaw) (statuses : StatusLaw) (law : AnswerLaw) (small : SmallLaw) (words : List (List ℕ)) (old new : Outside) (result : Status) (o : CallOutcome (Answer words) stores old new result) (source target : Option (List ℕ)) (trace : List ℕ) (of_run : IsRunOf words source target trace) where
  is_row : IsRow words (run Full source target trace)
  is_row = row_of_run words source target trace of_run

  stood : (files : Files) → old.files ≡ Some files → IsAnswer result → (reply : Reply) × Answer words files reply
      × (new.files ≡ Some reply.after) × ((reply.status ≡ result) × (new.written ≡ append_known old.written reply.line))
  stood files told a = subst (λ t. IfSome t (λ files. (reply : Reply) × Answer words files reply × (new.files ≡ Some reply.after) × ((reply.status ≡ result) × (new.written ≡ append_known old.written reply.line)))) told (o.answer a)

  pub headline_where : (Rose old.depot_faults new.depot_faults → ⊥) → (Rose old.sink_faults new.sink_faults → ⊥)
      → (result ≡ is.Memory → ⊥) → IfSome old.files (λ files. (energy : ℤ) (steps : ℕ)
      → MachineTakes files source target trace energy steps → IsDoneWith result old.written new.written energy steps)
  headline_where no_depot no_sink no_memory = if_some old.files (λ files told energy steps takes.
      let reply = reply_of files (report.Accepted energy steps) in
      let answer : Answer words files reply = inr (run Full source target trace, is_row, answers_taken files source target trace energy steps takes) in
      let all = complete statuses words old new result o no_depot no_sink in
      let here = subst (λ t. IfSome t (λ files. (reply : Reply) → Answer words files reply → (result ≡ reply.status) ⊎ (result ≡ is.Memory))) told all in
      done_with files told energy steps reply (small files source target trace energy steps takes) answer (here reply answer))
    where
      done_with : (files : Files) → old.files ≡ Some files → (energy : ℤ) (steps : ℕ) (reply : Reply)
          → IsCost energy steps → Answer words files (reply_of files (report.Accepted energy steps))
          → (result ≡ is.Done) ⊎ (result ≡ is.Memory) → IsDoneWith result old.written new.written energy steps
      done_with files told energy steps reply cost answer (inr m) = absurd (no_memory m)
      done_with files told energy steps reply cost answer (inl done) =
          let where_stood = stood files told (subst IsAnswer (sym done) tt) in
          let same = law words files where_stood.0 (reply_of files (report.Accepted energy steps)) (run_is_no_plan one words source target trace is_row) where_stood.1 answer in
          (done, cost, where_stood.3.1 ∙ ap (λ (r : Reply). append_known old.written r.line) same)

  pub headline_only : result ≡ is.Done → IfSome old.files (λ files. (energy : ℤ) × (steps : ℕ)
      × MachineTakes files source target trace energy steps × IsDoneWith result old.written new.written energy steps)
  headline_only done = if_some old.files (λ files told.
      let where_stood = stood files told (subst IsAnswer (sym done) tt) in
      let the_taking = takes_done files source target trace where_stood.0 (where_stood.3.0 ∙ done) (of_the_row one words (run Full source target trace) files where_stood.0 is_row where_stood.1) in
      (the_taking.0, the_taking.1, the_taking.2, (done, small files source target trace the_taking.0 the_taking.1 the_taking.2, where_stood.3.1 ∙ ap (λ (r : Reply). append_known old.written r.line) the_taking.3)))

  -- any answer
  pub refusal : IsAnswer result → IfSome old.files (λ files. (reply : Reply)
      × AnswerOfRun full_profile source target trace files reply × (result ≡ reply.status)
      × (new.written ≡ append_known old.written reply.line) × (new.files ≡ Some reply.after))
  refusal a = weaker old.files (λ files s. (s.0, of_the_row one words (run Full source target trace) files s.0 is_row s.1, sym s.3.0, s.3.1, s.2)) (o.answer a)

  -- both halves, if the output is known: the line has one energy and one number of steps
  pub headline : ApartLaw → (Rose old.depot_faults new.depot_faults → ⊥) → (Rose old.sink_faults new.sink_faults → ⊥)
      → (result ≡ is.Memory → ⊥) → IfSome old.files (λ files. IfSome old.written (λ before. (energy : ℤ) (steps : ℕ)
      → MachineTakes files source target trace energy steps ↔ IsDoneWith result (Some before) new.written energy steps))
  headline apart no_depot no_sink no_memory = if_some old.files (λ files told. if_some old.written (λ before known energy steps. (
    (λ takes. subst (λ (w : Option (List ℕ)). IsDoneWith result w new.written energy steps) known (told_where files told energy steps takes)),
    (λ done. only files told before known energy steps done),
  )))
    where
      told_where : (files : Files) → old.files ≡ Some files → (energy : ℤ) (steps : ℕ)
          → MachineTakes files source target trace energy steps → IsDoneWith result old.written new.written energy steps
      told_where files told = subst (λ t. IfSome t (λ files. (energy : ℤ) (steps : ℕ) → MachineTakes files source target trace energy steps → IsDoneWith result old.written new.written energy steps)) told (headline_where no_depot no_sink no_memory)

      some_same : (xs ys : List ℕ) → Some xs ≡ Some ys → xs ≡ ys
      some_same xs ys e = cc

      only : (files : Files) → old.files ≡ Some files → (before : List ℕ) → old.written ≡ Some before → (energy : ℤ)
          (steps : ℕ) → IsDoneWith result (Some before) new.written energy steps
          → MachineTakes files source target trace energy steps
      only files told before known energy steps done =
          let found = subst (λ t. IfSome t (λ files. (energy : ℤ) × (steps : ℕ) × MachineTakes files source target trace energy steps × IsDoneWith result old.written new.written energy steps)) told (headline_only done.0) in
          let written : append_known (Some before) (accepted_line found.0 found.1) ≡ append_known (Some before) (accepted_line energy steps) =
          ap (λ w. append_known w (accepted_line found.0 found.1)) (sym known) ∙ (sym found.3.2 ∙ done.2) in
          let same = apart found.0 energy found.1 steps found.3.1 done.1 (append_cancel_left before _ _ (some_same _ _ written)) in
          subst (λ (k : ℕ). MachineTakes files source target trace energy k) same.1 (subst (λ (e : ℤ). MachineTakes files source target trace e found.1) same.0 found.2)
