-- The copy of a row's answer.
use Rattle.std.proofs.Common.{◌≡◌, ◌⊎◌, ℕ, List, [], Option, Some, None, refl, sym, ap, subst, inl, inr, arith, length, Bool}
use Rattle.std.specs.Prelude.{IfSome}
use Rattle.std.proofs.lemmas.Bool.{cases_lt}
use Rattle.vox_depot.specs.Causes.{Rose}
use Rattle.vox_depot.specs.Files.{Files, content}
use Rattle.nanobot_rows.specs.declared.effect.Effect.{Effect}
use Rattle.nanobot_rows.specs.declared.effect.NewFile.{NewFile}
use Rattle.nanobot_rows.specs.declared.report.Report.{Report}
use Rattle.nanobot_rows.specs.declared.status.Status.{Status}
use Rattle.nanobot_rows.specs.declared.status.Status.TheVariants as is
use Rattle.nanobot_rows.specs.Answer.{AnswerOf, Reply}
use Rattle.nanobot_rows.specs.Effects.{IsFor, bytes_by, files_with, reply_by, status_by}
use Rattle.nanobot_rows.specs.Reading.{no_such_file, reply_of}
use Rattle.nanobot_rows.specs.Report.{code_of, report_line, status_of}
use Rattle.nanobot_words.specs.declared.planner.Planner.{Planner}
use Rattle.nanobot_words.specs.Rows.{Row, plan, stores_of}
use Rattle.nanobot_c.specs.Calls.{GaveLineOf, Gives, GivesPlanBetween, HasModel, HasNoModel, bytes_in, stored_in}
use Rattle.nanobot_c.specs.Given.{Gave, IsDone, IsMemory, MayGive, file_or_line}
use Rattle.nanobot_c.specs.Lent.{lent, plan_name, run_row, source_side, target_side}
use Rattle.nanobot_c.proofs.Named.{own_content}
use Rattle.nanobot_c.proofs.Statuses.{message_is_none, report_is_none}

-- no fault rose
pub none_rose : Rose 0 0 → ⊥
none_rose rose = omega arith

-- bytes copied with another status than out of memory do not report it
pub gave_not_memory : (status : ℕ) (bytes old new : List ℕ) (size result : ℕ) → (IsMemory status → ⊥)
    → Gave status bytes old new size result → IsMemory result → ⊥
gave_not_memory status bytes old new size result other gave memory = elim (cases_lt (length old) (length bytes)) [
  | inl small ↦ let gave_small = (gave.small small).0 in absurd (omega arith)
  | inr fits ↦ other (subst IsMemory (gave.fits fits).0 memory)
]

-- a call that reports done copied everything, and its status is done
pub gave_done : (status : ℕ) (bytes old new : List ℕ) (size result : ℕ) → Gave status bytes old new size result
    → IsDone result → IsDone status
gave_done status bytes old new size result gave done = elim (cases_lt (length old) (length bytes)) [
  | inl small ↦ let gave_small = (gave.small small).0 in absurd (omega arith)
  | inr fits ↦ subst IsDone (gave.fits fits).0 done
]

module _ (row : Row) (files : Files) (old new : List ℕ) (size result : ℕ) where
  gives : (reply : Reply) (bytes : List ℕ) → AnswerOf row files reply → (IsMemory (code_of reply.status) → ⊥)
      → bytes ≡ file_or_line (stored_in (stores_of row) reply) reply.line
      → MayGive (code_of reply.status) bytes old new size result → Gives row files old new size result
  gives reply bytes answer other same (inl none) = record { answer = λ has. absurd (has none.answered); memory = λ _. (none.as_it_was, none.none) }
  gives reply bytes answer other same (inr gave) = record {
    answer = λ _. (reply, answer, subst (λ b. Gave (code_of reply.status) b old new size result) same gave);
    memory = λ m. absurd (gave_not_memory _ bytes old new size result other gave m);
  }

  module _ (absent : (name : List ℕ) → stores_of row ≡ Some name → content files name ≡ None) where
    none_stored : (stores : Option (List ℕ)) (status : Status) (line : List ℕ)
        → ((name : List ℕ) → stores ≡ Some name → content files name ≡ None)
        → stored_in stores (record { status = status; line = line; after = files }) ≡ None
    none_stored None status line new_name = refl
    none_stored (Some name) status line new_name = new_name name refl

    stored : (status : Status) (line : List ℕ) (file : Option NewFile)
        → IfSome file (λ f. (stores_of row ≡ Some f.name.now) × (status ≡ is.Done)) → bytes_in file
        ≡ stored_in (stores_of row) (record { status = status; line = line; after = files_with files file })
    stored status line None named = sym (none_stored (stores_of row) status line absent)
    stored status line (Some f) named =
        subst (λ (o : Option (List ℕ)). Some f.bytes.items ≡ stored_in o (record { status = status; line = line; after = files_with files (Some f) })) (sym named.0) (sym (own_content files f.name.now f.bytes.items))

    pub gives_effect : (effect : Effect) → AnswerOf row files (reply_by files effect) → IsFor (stores_of row) effect
        → MayGive (code_of (status_by effect.message))
        (file_or_line (bytes_in effect.file) (bytes_by effect.message)) old new size result
        → Gives row files old new size result
    gives_effect effect answer named given =
        gives (reply_by files effect) (file_or_line (bytes_in effect.file) (bytes_by effect.message)) answer (message_is_none effect.message)
        (ap (λ o. file_or_line o (bytes_by effect.message)) (stored (status_by effect.message) (bytes_by effect.message) effect.file named)) given

    pub gives_report : (report : Report) → AnswerOf row files (reply_of files report)
        → MayGive (code_of (status_of report)) (report_line report) old new size result
        → Gives row files old new size result
    gives_report report answer given =
        gives (reply_of files report) (report_line report) answer (report_is_none report) (ap (λ o. file_or_line o (report_line report)) (sym (none_stored (stores_of row) (status_of report) (report_line report) absent))) given

    pub gives_gone : Rose 0 0 ⊎ AnswerOf row files (no_such_file files) → Gave (code_of is.Depot) [] old new size result
        → Gives row files old new size result
    gives_gone (inl rose) given = absurd (none_rose rose)
    gives_gone (inr answer) given =
        gives (no_such_file files) [] answer (λ e. absurd (omega arith)) (ap (λ o. file_or_line o []) (sym (none_stored (stores_of row) is.Depot [] absent))) (inr given)

-- a run stores nothing, so its line is given
pub line_given : (light : Bool) (source target : List ℕ) (files : Files) (old new : List ℕ) (size result : ℕ)
    → Gives (run_row light source target) files old new size result → (IsMemory result → ⊥)
    → GaveLineOf (run_row light source target) files old new size result
line_given light source target files old new size result g has = g.answer has

-- if one of two models has bytes, not both are empty
some_model : (source target : List ℕ) → HasModel source target → HasNoModel source target → ⊥
some_model source target has none = subst (λ s. HasModel s [] → ⊥) (sym none.0) (λ h. h) (subst (λ t. HasModel source t) none.1 has)

-- the trace that a plan between two sides stores, or its line
pub between_given : (planner : Planner) (source target : List ℕ) (s t : Option (List ℕ)) (old new : List ℕ)
    (size result : ℕ) → s ≡ source_side source → t ≡ target_side target → HasModel source target
    → Gives (plan planner s t plan_name) (lent source target []) old new size result
    → GivesPlanBetween planner source target old new size result
between_given planner source target s t old new size result same_source same_target has gives =
    let given = subst (λ (a : Option (List ℕ)). Gives (plan planner a (target_side target) plan_name) (lent source target []) old new size result) same_source
    (subst (λ (b : Option (List ℕ)). Gives (plan planner s b plan_name) (lent source target []) old new size result) same_target gives) in
    record { answer = λ _. given.answer; no_model = λ none. absurd (some_model source target has none); memory = given.memory }
