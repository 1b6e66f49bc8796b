-- Worked examples of the headline, and of the effects of a call on the outside.
use Rattle.std.specs.Prelude.{◌≡◌, ◌≢◌, ℕ, ◌+◌, ◌^◌, ◌<◌, ℤ, pos, List, [], ◌∷◌, length, None, Some, codes, ⊤}
use Rattle.nano_spec.specs.Matrix.{Matrix}
use Rattle.vox_depot.specs.Files.{Files}
use Rattle.nanobot_rows.specs.declared.status.Status.TheVariants as is
use Rattle.nanobot_rows.specs.Answer.{IsReply, Reply}
use Rattle.nanobot_rows.specs.WorkedAnswers.{AreWorkedFiles}
use Rattle.nanobot_app.specs.Headline.{IsCost, IsDoneWith, MachineTakes, TakesBytes}
use Rattle.nanobot_app.specs.Outcome.{AnswerStands, Delivered, DeliveredPart, IsAnswer, LosesFile, Outside, SparesOthers, StoredBy, outside}

-- an outside with unknown files, with these bytes written
abbrev pub with_written : List ℕ → Outside
with_written bytes =
    record { files = None; depot_faults = 0; failed_stores = 0; written = Some bytes; sink_faults = 0 }

-- an outside with these files
abbrev pub with_files : Files → Outside
with_files files =
    record { files = Some files; depot_faults = 0; failed_stores = 0; written = None; sink_faults = 0 }

-- arguments that are no command were answered
abbrev pub refused : Files → Reply
refused files = record { status = is.Words; line = codes "words\n"; after = files }

pub record WorkedOutcomes : Type 0 where
  -- the whole line is appended to the output
  pub a_line : (files : Files) → Delivered is.Words (with_written (codes "a\n")) (with_written (codes "a\nwords\n"))
      (refused files)
  pub another_line : (files : Files) → Delivered is.Words (with_written []) (with_written (codes "word\n"))
      (refused files) → ⊥
  pub another_status : (files : Files) → Delivered is.Done (with_written []) (with_written (codes "words\n"))
      (refused files) → ⊥
  -- a call that stores no file loses none
  pub no_file_to_lose :
      (old new : Outside) → LosesFile (IsReply is.Done (codes "done\n")) (λ name. ⊥) old new → ⊥
  -- a prefix of the line is written, and not something else
  pub a_part_of_a_line :
      (files : Files) → DeliveredPart (with_written (codes "a\n")) (with_written (codes "a\nwo")) (refused files)
  pub not_another_part : (files : Files)
      → DeliveredPart (with_written []) (with_written (codes "words\n\n")) (refused files) → ⊥
  -- all statuses but three are answers
  pub answers : IsAnswer is.Done × IsAnswer is.Broken × IsAnswer is.Words × IsAnswer is.Model × IsAnswer is.Trace
      × IsAnswer is.Text × IsAnswer is.Unsupported
  pub no_answers : (IsAnswer is.Depot → ⊥) × (IsAnswer is.Sink → ⊥) × (IsAnswer is.Memory → ⊥)
  -- the files are those of the answer
  pub an_answer_stands : (files : Files) → AnswerStands (IsReply is.Done (codes "done\n")) (with_files files)
      (with_files files) (λ reply. reply.line ≡ codes "done\n")
  pub not_over_other_files : (files other : Files) → other ≢ files
      → AnswerStands (IsReply is.Done (codes "done\n")) (with_files files) (with_files other) (λ _. ⊤) → ⊥
  pub not_by_another_answer : (files : Files) → AnswerStands (IsReply is.Done (codes "done\n")) (with_files files)
      (with_files files) (λ reply. reply.line ≡ []) → ⊥
  -- a call that stores nothing leaves all files unchanged
  pub files_are_spared :
      (old : Outside) → SparesOthers (IsReply is.Done (codes "done\n")) (λ name. ⊥) old old
  pub no_other_files : (files other : Files) → other ≢ files → SparesOthers (IsReply is.Done (codes "done\n"))
      (λ name. ⊥) (with_files files) (with_files other) → ⊥
  -- the files that arguments store
  pub a_text_stores_its_trace : StoredBy (codes "asm" ∷ codes "bb" ∷ codes "b" ∷ []) (codes "b")
  pub a_check_stores_nothing : (name : List ℕ) → StoredBy (codes "check" ∷ codes "m" ∷ []) name → ⊥
  -- the visible state of a depot and a sink
  pub what_is_seen :
      outside (λ (d : ℕ). None) (λ d. d) (λ d. d + 1) (λ (o : List ℕ). Some o) (λ o. length o) 7 (codes "ab")
      ≡ record { files = None; depot_faults = 7; failed_stores = 8; written = Some (codes "ab"); sink_faults = 2 }

-- the headline
pub record WorkedHeadlines : Type 0 where
  pub a_run_is_taken : (files : Files) → AreWorkedFiles files → MachineTakes files (Some (codes "nothing.mdl"))
      (Some (codes "post.mdl")) (codes "build.nbt") (pos 420) 4
  pub a_run_from_nothing_is_taken : (files : Files) → AreWorkedFiles files
      → MachineTakes files None (Some (codes "post.mdl")) (codes "build.nbt") (pos 420) 4
  pub a_run_to_nothing_is_taken : (files : Files) → AreWorkedFiles files
      → MachineTakes files (Some (codes "nothing.mdl")) None (codes "halt.nbt") (pos 101) 1
  pub no_run_from_nothing_to_nothing : (files : Files) (trace : List ℕ) (energy : ℤ) (steps : ℕ)
      → MachineTakes files None None trace energy steps → ⊥
  pub not_too_long_a_trace : (source target : Matrix) (bytes : List ℕ) (energy : ℤ) (steps : ℕ) → 2 ^ 30 < length bytes
      → TakesBytes source target bytes energy steps → ⊥
  pub the_greatest_numbers : IsCost (pos 9223372036854775807) 4294967295
  pub too_great_an_energy : IsCost (pos 9223372036854775808) 1 → ⊥
  pub too_many_steps : IsCost (pos 0) 4294967296 → ⊥
  pub it_is_done :
      IsDoneWith is.Done (Some (codes "a\n")) (Some (codes "a\nok energy 420 steps 4\n")) (pos 420) 4
  pub not_with_another_status :
      IsDoneWith is.Broken (Some []) (Some (codes "ok energy 420 steps 4\n")) (pos 420) 4 → ⊥
  pub not_with_another_line : IsDoneWith is.Done (Some []) (Some (codes "ok energy 420 steps 4")) (pos 420) 4 → ⊥
