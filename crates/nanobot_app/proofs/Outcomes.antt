-- The outcome of a call, from its exits.
use Rattle.std.specs.FinMap as finite
use Rattle.std.proofs.Common.{◌≡◌, ◌⊎◌, ℕ, ◌≤◌, List, [], Option, Some, None, refl, sym, ap, ◌∙◌, subst, inl, inr, take}
use Rattle.std.specs.Prelude.{IfSome, IsSomeAnd}
use Rattle.std.specs.Io.KnownBytes.{append_known}
use Rattle.vox_depot.specs.Causes.{Rose}
use Rattle.vox_depot.specs.Files.{Files, others}
use Rattle.nanobot_rows.specs.declared.effect.Effect.{Effect}
use Rattle.nanobot_rows.specs.declared.effect.Message.{Message}
use Rattle.nanobot_rows.specs.declared.effect.Message.TheVariants as message
use Rattle.nanobot_rows.specs.declared.effect.NewFile.{NewFile}
use Rattle.nanobot_rows.specs.declared.report.Report.{Report}
use Rattle.nanobot_rows.specs.declared.report.Report.TheVariants as report
use Rattle.nanobot_rows.specs.declared.status.Status.{Status}
use Rattle.nanobot_rows.specs.declared.status.Status.TheVariants as is
use Rattle.nanobot_rows.specs.Answer.{Answer, AnswerOf, Answers}
use Rattle.nanobot_rows.specs.Effects.{IsFor, IsUnstored, bytes_by, files_with, reply_by, status_by, told_with}
use Rattle.nanobot_app.specs.Outcome.{Finished, IsAnswer, LacksFile, CallOutcome, Outside, Printed, RowStores, SparesOthers, StoredBy, Told}
use Rattle.nanobot_rows.specs.Reading.{reply_of}
use Rattle.nanobot_rows.specs.Report.{report_line, status_of}
use Rattle.nanobot_words.specs.Rows.{IsRow, Row}
use Rattle.nanobot_rows.proofs.Replies.{rose_since}
use Rattle.nanobot_rows.proofs.Told.{weaker}

not_depot : (s : Status) → IsAnswer s → s ≡ is.Depot → ⊥
not_depot s a e = subst IsAnswer e a

not_sink : (s : Status) → IsAnswer s → s ≡ is.Sink → ⊥
not_sink s a e = subst IsAnswer e a

not_memory : (s : Status) → IsAnswer s → s ≡ is.Memory → ⊥
not_memory s a e = subst IsAnswer e a

pub is_answer : (r : Report) → IsAnswer (status_of r)
is_answer (report.Accepted energy steps) = tt
is_answer (report.Legal resolution full) = tt
is_answer (report.Stored commands bytes) = tt
is_answer (report.Forged resolution full) = tt
is_answer (report.Planned energy steps commands bytes) = tt
is_answer (report.Broken broken) = tt
is_answer (report.Model who fault) = tt
is_answer (report.Resolutions source target) = tt
is_answer (report.TraceBad offset) = tt
is_answer (report.TraceCut offset) = tt
is_answer (report.TraceLong limit) = tt
is_answer (report.Text fault) = tt
is_answer (report.TextLong limit) = tt
is_answer (report.GroupLong runs rows) = tt
is_answer (report.Unsupported at) = tt
is_answer (report.Exercised number resolution full layer group) = tt

is_message : (m : Message) → IsAnswer (status_by m)
is_message (message.Line report) = is_answer report
is_message (message.Session lines) = tt

module _ {answers : Answers} {stores : List ℕ → Type 0} (old new : Outside) where
  -- a line is printed, and the files are those of the answer
  pub outcome_printed : (status result : Status) (line : List ℕ) → IsAnswer status → IfSome old.files (λ files.
      (after : Files) × answers files (record { status = status; line = line; after = after })
      × (new.files ≡ Some after)) → Printed status line old.written new.written old.sink_faults new.sink_faults result
      → CallOutcome answers stores old new result
  outcome_printed status result line a stands printed = by printed.cases
    where
      by : ((result ≡ status) × (new.written ≡ append_known old.written line)) ⊎ ((result ≡ is.Sink)
          × Rose old.sink_faults new.sink_faults × ((n : ℕ) × (new.written ≡ append_known old.written (take n line))))
          → CallOutcome answers stores old new result
      by (inl done) =
          let answer_here : IsAnswer result = subst IsAnswer (sym done.0) a in
          record {
            answer = λ _. weaker old.files (λ files s. (record { status = status; line = line; after = s.0 }, s.1, s.2, (sym done.0, done.1))) stands;
            depot = λ e. absurd (not_depot result answer_here e);
            sink = λ e. absurd (not_sink result answer_here e);
            after_depot = λ e. absurd (not_depot result answer_here e);
            after_sink = λ e. absurd (not_sink result answer_here e);
            after_memory = λ e. absurd (not_memory result answer_here e);
          }
      by (inr part) = record {
        answer = λ b. absurd (not_sink result b part.0);
        depot = λ e. let no : is.Sink ≡ is.Depot = sym part.0 ∙ e in absurd (cc);
        sink = λ _. part.1;
        after_depot = λ e. let no : is.Sink ≡ is.Depot = sym part.0 ∙ e in absurd (cc);
        after_sink = λ _. weaker old.files (λ files s. (record { status = status; line = line; after = s.0 }, s.1, s.2, part.2)) stands;
        after_memory = λ e. let no : is.Sink ≡ is.Memory = sym part.0 ∙ e in absurd (cc);
      }

  pub outcome_memory : (result : Status) → result ≡ is.Memory → new.files ≡ old.files → new.written ≡ old.written
      → CallOutcome answers stores old new result
  outcome_memory result e files written = record {
    answer = λ b. absurd (not_memory result b e);
    depot = λ f. let no : is.Memory ≡ is.Depot = sym e ∙ f in absurd (cc);
    sink = λ f. let no : is.Memory ≡ is.Sink = sym e ∙ f in absurd (cc);
    after_depot = λ f. let no : is.Memory ≡ is.Depot = sym e ∙ f in absurd (cc);
    after_sink = λ f. let no : is.Memory ≡ is.Sink = sym e ∙ f in absurd (cc);
    after_memory = λ _. (files, written);
  }

  -- a report is printed, and no file is stored
  pub outcome_told : (r : Report) (result : Status) → IfSome old.files (λ files. answers files (reply_of files r))
      → new.files ≡ old.files → Told r old.written new.written old.sink_faults new.sink_faults result
      → CallOutcome answers stores old new result
  outcome_told r result answer files told = by told.cases
    where
      stands :
          IfSome old.files (λ files. (after : Files) × answers files (record { status = status_of r; line = report_line r; after = after }) × (new.files ≡ Some after))
      stands = subst (λ o. IfSome old.files (λ fs. (after : Files) × answers fs (record { status = status_of r; line = report_line r; after = after }) × (o ≡ Some after))) (sym files) (same old.files answer)
        where
          same : (o : Option Files) → IfSome o (λ fs. answers fs (reply_of fs r)) → IfSome o (λ fs. (after : Files)
              × answers fs (record { status = status_of r; line = report_line r; after = after }) × (o ≡ Some after))
          same None h = tt
          same (Some fs) h = (fs, h, refl)

      by : ((result ≡ is.Memory) × (new.written ≡ old.written))
          ⊎ Printed (status_of r) (report_line r) old.written new.written old.sink_faults new.sink_faults result
          → CallOutcome answers stores old new result
      by (inl none) = outcome_memory result none.0 files none.1
      by (inr printed) = outcome_printed (status_of r) result (report_line r) (is_answer r) stands printed

  -- a file could not be read or stored
  pub outcome_lost : (result : Status) → result ≡ is.Depot
      → Rose old.depot_faults new.depot_faults ⊎ LacksFile answers old → new.written ≡ old.written
      → SparesOthers answers stores old new → CallOutcome answers stores old new result
  outcome_lost result e cause written spared = record {
    answer = λ b. absurd (not_depot result b e);
    depot = λ _. cause;
    sink = λ f. let no : is.Depot ≡ is.Sink = sym e ∙ f in absurd (cc);
    after_depot = λ _. (written, spared);
    after_sink = λ f. let no : is.Depot ≡ is.Sink = sym e ∙ f in absurd (cc);
    after_memory = λ f. let no : is.Depot ≡ is.Memory = sym e ∙ f in absurd (cc);
  }

-- an effect is finished, after files were read
pub outcome_finished : {answers : Answers} (stored : Option (List ℕ)) (effect : Effect) (old mid new : Outside)
    (result : Status) → IfSome old.files (λ files. answers files (reply_by files effect)) → IsFor stored effect
    → mid.files ≡ old.files → old.depot_faults ≤ mid.depot_faults → mid.failed_stores ≡ old.failed_stores
    → mid.written ≡ old.written → mid.sink_faults ≡ old.sink_faults → Finished effect mid new result
    → CallOutcome answers (λ name. stored ≡ Some name) old new result
outcome_finished {answers} stored effect old mid new result answer for files faults stores written sink finished = by finished.cases
  where
    spared : Rose old.failed_stores new.failed_stores → (o : Option NewFile)
        → IfSome o (λ file. (stored ≡ Some file.name.now) × (status_by effect.message ≡ is.Done))
        → IsUnstored o mid.files new.files → SparesOthers answers (λ name. stored ≡ Some name) old new
    spared failed None named lost = inl (lost ∙ files)
    spared failed (Some file) named lost = inr (record {
      failed = failed;
      done = weaker old.files (λ files told. (reply_by files effect, told, named.1)) answer;
      name = file.name.now;
      stored = named.0;
      others_are = lost ∙ ap (λ t. others t file.name.now) files;
    })

    kept : (told : Option Files) (o : Option NewFile) (now : Option Files) → now ≡ told_with told o → IfSome told (λ fs.
        answers fs
        (record { status = status_by effect.message; line = bytes_by effect.message; after = files_with fs o }))
        → IfSome told (λ fs. (after : Files)
        × answers fs (record { status = status_by effect.message; line = bytes_by effect.message; after = after })
        × (now ≡ Some after))
    kept None o now e h = tt
    kept (Some fs) None now e h = (fs, h, e)
    kept (Some fs) (Some file) now e h = (finite.insert fs file.name.now file.bytes.items, h, e)

    by : ((result ≡ is.Memory) × (new.files ≡ mid.files) × (new.written ≡ mid.written)) ⊎ (((result ≡ is.Depot)
        × Rose mid.depot_faults new.depot_faults × Rose mid.failed_stores new.failed_stores
        × (new.written ≡ mid.written) × IsUnstored effect.file mid.files new.files)
        ⊎ ((new.files ≡ told_with mid.files effect.file) × Printed (status_by effect.message) (bytes_by effect.message)
        mid.written new.written mid.sink_faults new.sink_faults result))
        → CallOutcome answers (λ name. stored ≡ Some name) old new result
    by (inl none) = outcome_memory old new result none.0 (none.1 ∙ files) (none.2 ∙ written)
    by (inr (inl lost)) =
        let rose : Rose old.depot_faults new.depot_faults = rose_since old.depot_faults mid.depot_faults new.depot_faults faults lost.1 in
        let failed : Rose old.failed_stores new.failed_stores = subst (λ n. Rose n new.failed_stores) stores lost.2 in
        outcome_lost old new result lost.0 (inl rose) (lost.3 ∙ written) (spared failed effect.file for lost.4)
    by (inr (inr done)) =
        outcome_printed old new (status_by effect.message) result (bytes_by effect.message) (is_message effect.message)
        (kept old.files effect.file new.files (done.0 ∙ ap (λ t. told_with t effect.file) files) answer)
        (subst (λ w. Printed (status_by effect.message) (bytes_by effect.message) w new.written old.sink_faults new.sink_faults result) written (subst (λ n. Printed (status_by effect.message) (bytes_by effect.message) mid.written new.written n new.sink_faults result) sink done.1))

-- an outcome of a command is one of its arguments
pub outcome_of_row : (words : List (List ℕ)) (row : Row) (old new : Outside) (result : Status) → IsRow words row
    → CallOutcome (AnswerOf row) (RowStores row) old new result
    → CallOutcome (Answer words) (StoredBy words) old new result
outcome_of_row words row old new result written o = record {
  answer = λ a. weaker old.files (λ files s. (s.0, inr (row, written, s.1), s.2, s.3)) (o.answer a);
  depot = λ e. cause (o.depot e);
  sink = o.sink;
  after_depot = λ e. let its_after_depot = o.after_depot e in (its_after_depot.0, spared its_after_depot.1);
  after_sink = λ e. weaker old.files (λ files s. (s.0, inr (row, written, s.1), s.2, s.3)) (o.after_sink e);
  after_memory = o.after_memory;
}
  where
    cause : Rose old.depot_faults new.depot_faults ⊎ LacksFile (AnswerOf row) old
        → Rose old.depot_faults new.depot_faults ⊎ LacksFile (Answer words) old
    cause (inl rose) = inl rose
    cause (inr lacks) = inr (there old.files lacks)
      where
        there : (o : Option Files)
            → IsSomeAnd o (λ files. AnswerOf row files (record { status = is.Depot; line = []; after = files }))
            → IsSomeAnd o (λ files. Answer words files (record { status = is.Depot; line = []; after = files }))
        there None h = absurd h
        there (Some files) h = inr (row, written, h)

    spared : SparesOthers (AnswerOf row) (RowStores row) old new → SparesOthers (Answer words) (StoredBy words) old new
    spared (inl same) = inl same
    spared (inr lost) = inr (record {
      failed = lost.failed;
      done = weaker old.files (λ files d. (d.0, inr (row, written, d.1), d.2)) lost.done;
      name = lost.name;
      stored = (row, written, lost.stored);
      others_are = lost.others_are;
    })
