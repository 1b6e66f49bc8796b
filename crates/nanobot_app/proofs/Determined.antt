-- The answer to a command is unique, and the consequences.
use Rattle.std.proofs.Common.{◌≡◌, ◌⊎◌, ℕ, List, [], Some, refl, sym, ap, ◌∙◌, subst, inl, inr}
use Rattle.std.specs.Prelude.{IfSome, IsSomeAnd}
use Rattle.std.specs.Io.KnownBytes.{append_known}
use Rattle.vox_depot.specs.Files.{Files}
use Rattle.vox_depot.specs.Causes.{Rose}
use Rattle.nanobot_rows.specs.declared.status.Status.{Status}
use Rattle.nanobot_rows.specs.declared.status.Status.TheVariants as is
use Rattle.nanobot_rows.specs.Answer.{Answer, AnswerOf, AskNoPlan, Reply, profile_of}
use Rattle.nanobot_app.specs.Outcome.{IsAnswer, LacksFile, CallOutcome, Outside}
use Rattle.nanobot_words.specs.Rows.{Row, asm, check, debug, dis, exercise, make, plan, run, IsRow, MakesPlans}
use Rattle.nanobot_rows.proofs.Told.{if_some}
use Rattle.nanobot_app.proofs.Answered.{asm_answered, check_answered, debug_answered, dis_answered, exercise_answered, plan_answered, run_answered}
use Rattle.nanobot_app.proofs.Found.{SayOne}

abbrev pub RowLaw : Type 0
RowLaw = (words : List (List ℕ)) (row row' : Row) → IsRow words row → IsRow words row' → row ≡ row'

-- ---- at most one reply, or one part of it

module _ {A : Type 0} (part : Reply → A) (rows : RowLaw) (laws : SayOne) where
  -- two plans have the same status at least
  row_answer_once : (row : Row) → (MakesPlans row → (r s : Reply) → r.status ≡ s.status → part r ≡ part s)
      → (files : Files) (r s : Reply) → AnswerOf row files r → AnswerOf row files s → part r ≡ part s
  row_answer_once (check name) told files r s h k = ap part ((check_answered name).one laws files r s h k)
  row_answer_once (run round source target trace) told files r s h k = ap part ((run_answered (profile_of round) source target trace).one laws files r s h k)
  row_answer_once (asm text trace) told files r s h k = ap part ((asm_answered text trace).one laws files r s h k)
  row_answer_once (dis trace text) told files r s h k = ap part ((dis_answered trace text).one laws files r s h k)
  row_answer_once (make number resolution name) told files r s h k = ap part (h ∙ sym k)
  row_answer_once (plan planner source target trace) told files r s h k = told tt r s ((plan_answered planner source target trace).one laws files r s h k)
  row_answer_once (exercise number resolution) told files r s h k = told tt r s ((exercise_answered number resolution).one laws files r s h k)
  row_answer_once (debug source trace script) told files r s h k = ap part ((debug_answered source trace script).one laws files r s h k)

  part_once : (words : List (List ℕ)) (files : Files) (r s : Reply)
      → ((row : Row) → IsRow words row → MakesPlans row → (r s : Reply) → r.status ≡ s.status → part r ≡ part s)
      → Answer words files r → Answer words files s → part r ≡ part s
  part_once words files r s told (inl h) (inl k) = ap part (h.1 ∙ sym k.1)
  part_once words files r s told (inl h) (inr k) = absurd (h.0 k.0 k.1)
  part_once words files r s told (inr h) (inl k) = absurd (k.0 h.0 h.1)
  part_once words files r s told (inr h) (inr k) =
      let same = rows words k.0 h.0 k.1 h.1 in
      row_answer_once h.0 (told h.0 h.1) files r s h.2 (subst (λ (row : Row). AnswerOf row files s) same k.2)

module _ (rows : RowLaw) (laws : SayOne) where
  -- a command has one answer if it requests no plans
  pub answer_once : (words : List (List ℕ)) (files : Files) (r s : Reply) → AskNoPlan words → Answer words files r
      → Answer words files s → r ≡ s
  answer_once words files r s no_plan h k = part_once (λ (x : Reply). x) rows laws words files r s (λ row is plan r s e. absurd (no_plan row is plan)) h k

  -- arguments have one status
  pub status_once : (words : List (List ℕ)) (files : Files) (r s : Reply) → Answer words files r → Answer words files s
      → r.status ≡ s.status
  status_once words files r s h k = part_once (λ (x : Reply). x.status) rows laws words files r s (λ row is plan r s e. e) h k

-- ---- if no count rose, the status is the answer's, or out of memory

abbrev pub StatusLaw : Type 0
StatusLaw = (words : List (List ℕ)) (files : Files) (r s : Reply) → Answer words files r → Answer words files s → r.status ≡ s.status

abbrev pub AnswerLaw : Type 0
AnswerLaw = (words : List (List ℕ)) (files : Files) (r s : Reply) → AskNoPlan words → Answer words files r → Answer words files s → r ≡ s

pub complete : {stores : List ℕ → Type 0} (law : StatusLaw) (words : List (List ℕ)) (old new : Outside)
    (result : Status) → CallOutcome (Answer words) stores old new result → (Rose old.depot_faults new.depot_faults → ⊥)
    → (Rose old.sink_faults new.sink_faults → ⊥) → IfSome old.files
    (λ files. (reply : Reply) → Answer words files reply → (result ≡ reply.status) ⊎ (result ≡ is.Memory))
complete {stores} law words old new result o no_depot no_sink = if_some old.files (λ files told reply a. by files told reply a result o)
  where
    answered : (files : Files) → old.files ≡ Some files → (reply : Reply) → Answer words files reply → (s : Status)
        → IsAnswer s → CallOutcome (Answer words) stores old new s → s ≡ reply.status
    answered files told reply a s is_answer o =
        let stands = subst (λ t. IfSome t (λ files. (reply : Reply) × Answer words files reply × (new.files ≡ Some reply.after) × ((reply.status ≡ s) × (new.written ≡ append_known old.written reply.line)))) told (o.answer is_answer) in
        sym stands.3.0 ∙ law words files stands.0 reply stands.1 a

    by : (files : Files) → old.files ≡ Some files → (reply : Reply) → Answer words files reply → (s : Status)
        → CallOutcome (Answer words) stores old new s → (s ≡ reply.status) ⊎ (s ≡ is.Memory)
    by files told reply a is.Depot o = inl (cause (o.depot refl))
      where
        cause : Rose old.depot_faults new.depot_faults ⊎ LacksFile (Answer words) old → is.Depot ≡ reply.status
        cause (inl rose) = absurd (no_depot rose)
        cause (inr lacks) =
            let here = subst (λ t. IsSomeAnd t (λ files. Answer words files (record { status = is.Depot; line = []; after = files }))) told lacks in
            law words files _ reply here a
    by files told reply a is.Sink o = absurd (no_sink (o.sink refl))
    by files told reply a is.Memory o = inr refl
    by files told reply a is.Done o = inl (answered files told reply a is.Done tt o)
    by files told reply a is.Broken o = inl (answered files told reply a is.Broken tt o)
    by files told reply a is.Words o = inl (answered files told reply a is.Words tt o)
    by files told reply a is.Model o = inl (answered files told reply a is.Model tt o)
    by files told reply a is.Trace o = inl (answered files told reply a is.Trace tt o)
    by files told reply a is.Text o = inl (answered files told reply a is.Text tt o)
    by files told reply a is.Unsupported o = inl (answered files told reply a is.Unsupported tt o)
