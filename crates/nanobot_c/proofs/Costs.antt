-- The cost of a run.
use Rattle.std.proofs.Common.{◌≡◌, ◌⊎◌, ℕ, Option, Some, None, refl, sym, ap, subst, inl, inr, arith}
use Rattle.std.specs.Prelude.{ℤ, Result, Ok, Err, IfSome, IfOk, IfErr}
use Rattle.vox_depot.specs.Causes.{Rose}
use Rattle.vox_depot.specs.Files.{Files}
use Rattle.nanobot_rows.specs.declared.effect.Effect.{Effect}
use Rattle.nanobot_rows.specs.declared.effect.Message.{Message}
use Rattle.nanobot_rows.specs.declared.effect.Message.TheVariants as message
use Rattle.nanobot_rows.specs.declared.effect.NewFile.{NewFile}
use Rattle.nanobot_rows.specs.declared.report.Report.{Report}
use Rattle.nanobot_rows.specs.declared.report.Report.TheVariants.{Accepted}
use Rattle.nanobot_rows.specs.declared.status.Status.{Status}
use Rattle.nanobot_rows.specs.declared.status.Status.TheVariants as is
use Rattle.nanobot_rows.specs.Answer.{AnswerOf, Reply}
use Rattle.nanobot_rows.specs.Effects.{IsFor, bytes_by, files_with, reply_by, status_by}
use Rattle.nanobot_rows.specs.Reading.{no_such_file, reply_of}
use Rattle.nanobot_rows.specs.Report.{code_of, status_of}
use Rattle.nanobot_words.specs.Rows.{Row, stores_of}
use Rattle.nanobot_c.specs.Calls.{CostOf, IsRefused, ToldCostOf}
use Rattle.nanobot_c.specs.Given.{IsDone, IsMemory}
use Rattle.nanobot_c.proofs.Given.{none_rose}

module _ (row : Row) (files : Files) where
  refused : (reply : Reply) (number : ℕ) → AnswerOf row files reply → IsRefused reply.status number
      → CostOf row files (Err number)
  refused reply number answer (other, inl memory) = (other, inl memory)
  refused reply number answer (other, inr same) = (other, inr (reply, answer, same))

  pub refused_report : (report : Report) (number : ℕ) → AnswerOf row files (reply_of files report)
      → IsRefused (status_of report) number → CostOf row files (Err number)
  refused_report report number answer is = refused (reply_of files report) number answer is

  pub refused_gone : (number : ℕ) → Rose 0 0 ⊎ AnswerOf row files (no_such_file files) → number ≡ code_of is.Depot
      → CostOf row files (Err number)
  refused_gone number (inl rose) same = absurd (none_rose rose)
  refused_gone number (inr answer) same = refused (no_such_file files) number answer ((λ done. absurd (omega arith)), inr same)

  no_file : (file : Option NewFile) (status : Status) → stores_of row ≡ None
      → IfSome file (λ f. (stores_of row ≡ Some f.name.now) × (status ≡ is.Done)) → files_with files file ≡ files
  no_file None status none named = refl
  no_file (Some f) status none named = absurd (let no = sym none in let some = named.0 in cc)

  pub cost_of : (effect : Effect) (told : Result (ℤ × ℕ) ℕ) → stores_of row ≡ None
      → AnswerOf row files (reply_by files effect) → IsFor (stores_of row) effect
      → IfOk told (λ cost. effect.message ≡ message.Line (Accepted cost.0 cost.1))
      → IfErr told (λ number. IsRefused (status_by effect.message) number) → CostOf row files told
  cost_of effect (Ok cost) none answer named accepted is =
      subst (λ (m : Message). AnswerOf row files (record { status = status_by m; line = bytes_by m; after = files })) accepted
      (subst (λ (after : Files). AnswerOf row files (record { status = status_by effect.message; line = bytes_by effect.message; after = after })) (no_file effect.file (status_by effect.message) none named) answer)
  cost_of effect (Err number) none answer named accepted is = refused (reply_by files effect) number answer is

module _ (row row' : Row) (files : Files) (same_row : row ≡ row') where
  -- the cost of an accepted run is that of its line
  pub done_costs : (energy energy' : ℤ) (count result : ℕ) → energy' ≡ energy → IsDone result
      → AnswerOf row files (reply_of files (Accepted energy count)) → ToldCostOf row' files energy' count result
  done_costs energy energy' count result same done answer =
      let reply = reply_of files (Accepted energy count) in
      (reply, subst (λ (r : Row). AnswerOf r files reply) same_row answer, done, λ _. ap (λ e. reply_of files (Accepted e count)) (sym same))

  pub refused_costs : (energy : ℤ) (count number : ℕ) → (IsMemory number → ⊥) → CostOf row files (Err number)
      → ToldCostOf row' files energy count number
  refused_costs energy count number has (other, inl memory) = absurd (has memory)
  refused_costs energy count number has (other, inr (reply, answer, same)) = (reply, subst (λ (r : Row). AnswerOf r files reply) same_row answer, same, λ done. absurd (other done))
