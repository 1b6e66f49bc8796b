-- A run reports done exactly if the machine of the definitions takes the whole trace.
use Rattle.std.proofs.Common.{◌≡◌, ◌↔◌, ℕ, zero, suc, ◌^◌, ◌<◌, List, [], ◌∷◌, refl, sym, ap, ◌∙◌, subst, inr, arith, Bool, false, All, FitsSigned, w64}
use Rattle.std.specs.Prelude.{ℤ}
use Rattle.vox_depot.specs.Files.{Files}
use Rattle.nanobot_rows.specs.declared.report.Report.TheVariants as report
use Rattle.nanobot_rows.specs.declared.status.Status.{Status}
use Rattle.nanobot_rows.specs.declared.status.Status.TheVariants as is
use Rattle.nanobot_rows.specs.Answer.{AnswerOf, Reply}
use Rattle.nanobot_rows.specs.Reading.{reply_of}
use Rattle.nanobot_rows.specs.Lines.{accepted_line}
use Rattle.nanobot_rows.specs.Report.{code_of}
use Rattle.nanobot_words.specs.declared.row.Round.TheVariants.{Full}
use Rattle.nanobot_words.specs.Rows.{IsName, IsRow, MakesPlans, Row, run, with_side, row_words}
use Rattle.nanobot_app.proofs.Determined.{AnswerLaw, RowLaw, StatusLaw}
use Rattle.nanobot_app.proofs.Headlines.{SmallLaw, answers_taken, takes_done}
use Rattle.nanobot_app.proofs.Numbers.{cost_fits, line_apart}
use Rattle.nanobot_c.specs.Calls.{GaveDone, GaveLineOf, HasModel, TakesAll, ToldCostOf}
use Rattle.nanobot_c.specs.Given.{Gave, IsDone, IsMemory}
use Rattle.nanobot_c.specs.Lent.{lent, run_row, source_name, source_side, target_name, target_side, trace_name}
use Rattle.nanobot_c.proofs.Given.{gave_done}
use Rattle.nanobot_c.proofs.Statuses.{done_is}

-- ---- the arguments of a run

no_names : All IsName []
no_names k d l = absurd (omega arith)

with_name : (name : List ℕ) (names : List (List ℕ)) → IsName name → All IsName names → All IsName (name ∷ names)
with_name name names is all zero d l = is
with_name name names is all (suc k) d l = all k d (omega arith)

source_is : IsName source_name
source_is e = cc

target_is : IsName target_name
target_is e = cc

trace_is : All IsName (trace_name ∷ [])
trace_is = with_name trace_name [] (λ e. cc) no_names

names_are : (source target : List ℕ)
    → All IsName (with_side (source_side source) (with_side (target_side target) (trace_name ∷ [])))
names_are [] [] = trace_is
names_are [] (t ∷ ts) = with_name target_name (trace_name ∷ []) target_is trace_is
names_are (s ∷ ss) [] = with_name source_name (trace_name ∷ []) source_is trace_is
names_are (s ∷ ss) (t ∷ ts) = with_name source_name (target_name ∷ trace_name ∷ []) source_is (with_name target_name (trace_name ∷ []) target_is trace_is)

-- ---- both halves of the headline

module _ (one : RowLaw) (statuses : StatusLaw) (law : AnswerLaw) (source target trace : List ℕ) (has : HasModel source target) where
  abbrev row : Row
  row = run Full (source_side source) (target_side target) trace_name

  abbrev words : List (List ℕ)
  words = row_words row

  abbrev files : Files
  files = lent source target trace

  is_row : IsRow words row
  is_row = record { written = refl; named = names_are source target; of_table = has }

  -- if the machine takes the trace, the answer is that of an accepted run
  pub answer_where : (energy : ℤ) (count : ℕ) (reply : Reply) → TakesAll source target trace energy count
      → AnswerOf row files reply → reply ≡ reply_of files (report.Accepted energy count)
  answer_where energy count reply takes answer =
      law words files reply (reply_of files (report.Accepted energy count)) (λ other is plan. subst MakesPlans (one words other row is is_row) plan)
      (inr (row, is_row, answer)) (inr (row, is_row, answers_taken files (source_side source) (target_side target) trace_name energy count takes))

  -- if the answer is done, the machine takes the trace, and the line is that of its energy and its steps
  pub answer_only : (reply : Reply) → AnswerOf row files reply → reply.status ≡ is.Done → (energy : ℤ) × (count : ℕ)
      × TakesAll source target trace energy count × (reply.line ≡ accepted_line energy count)
  answer_only reply answer done =
      let found = takes_done files (source_side source) (target_side target) trace_name reply done answer in
      (found.0, found.1, found.2, ap (λ (r : Reply). r.line) found.3)

module _ (one : RowLaw) (statuses : StatusLaw) (law : AnswerLaw) (light : Bool) (source target trace : List ℕ) (has : HasModel source target) (full : light ≡ false) where
  module _ (old new : List ℕ) (size result : ℕ) (told : GaveLineOf (run_row light source target) (lent source target trace) old new size result) where
    given : GaveLineOf (run_row false source target) (lent source target trace) old new size result
    given = subst (λ (b : Bool). GaveLineOf (run_row b source target) (lent source target trace) old new size result) full told

    pub done_where : (energy : ℤ) (count : ℕ) → TakesAll source target trace energy count
        → GaveDone energy count old new size result
    done_where energy count takes =
        subst (λ (r : Reply). Gave (code_of r.status) r.line old new size result) (answer_where one statuses law source target trace has energy count given.0 takes given.1) given.2

    pub done_only : IsDone result → (energy : ℤ) × (count : ℕ) × TakesAll source target trace energy count
        × GaveDone energy count old new size result
    done_only done =
        let is = done_is given.0.status (gave_done _ given.0.line old new size result given.2 done) in
        let found = answer_only one statuses law source target trace has given.0 given.1 is in (
          found.0,
          found.1,
          found.2,
          subst (λ (s : Status). Gave (code_of s) (accepted_line found.0 found.1) old new size result) is
              (subst (λ b. Gave (code_of given.0.status) b old new size result) found.3 given.2),
        )

  module _ (energy : ℤ) (count result : ℕ) (told : ToldCostOf (run_row light source target) (lent source target trace) energy count result) where
    cost : ToldCostOf (run_row false source target) (lent source target trace) energy count result
    cost = subst (λ (b : Bool). ToldCostOf (run_row b source target) (lent source target trace) energy count result) full told

    -- it reports done with these numbers exactly if the machine takes the trace with them
    pub cost_is : SmallLaw → FitsSigned w64 energy → count < 2 ^ 64 → (e : ℤ) (k : ℕ)
        → TakesAll source target trace e k ↔ (IsDone result × (energy ≡ e) × (count ≡ k))
    cost_is small fits few e k = ((λ takes. told_where takes), (λ h. only h.0 h.1 h.2))
      where
        same_numbers : (e : ℤ) (k : ℕ) → TakesAll source target trace e k
            → accepted_line energy count ≡ accepted_line e k → (energy ≡ e) × (count ≡ k)
        same_numbers e k takes line =
            let cost_of = cost_fits e k (small (lent source target trace) (source_side source) (target_side target) trace_name e k takes) in
            line_apart energy e count k fits cost_of.0 few cost_of.1 line

        told_where : TakesAll source target trace e k → IsDone result × (energy ≡ e) × (count ≡ k)
        told_where takes =
            let same = answer_where one statuses law source target trace has e k cost.0 takes cost.1 in
            let done : IsDone result = cost.2 ∙ ap (λ (r : Reply). code_of r.status) same in
            let are = same_numbers e k takes (sym (ap (λ (r : Reply). r.line) (cost.3 done)) ∙ ap (λ (r : Reply). r.line) same) in
            (done, are.0, are.1)

        only : IsDone result → energy ≡ e → count ≡ k → TakesAll source target trace e k
        only done same_energy same_count =
            let found = answer_only one statuses law source target trace has cost.0 cost.1 (ap (λ (r : Reply). r.status) (cost.3 done)) in
            let are = same_numbers found.0 found.1 found.2 (sym (ap (λ (r : Reply). r.line) (cost.3 done)) ∙ found.3) in
            subst (λ (n : ℕ). TakesAll source target trace e n) (sym are.1 ∙ same_count) (subst (λ (z : ℤ). TakesAll source target trace z found.1) (sym are.0 ∙ same_energy) found.2)

-- done is not out of memory
pub done_not_memory : (result : ℕ) → IsDone result → IsMemory result → ⊥
done_not_memory result done memory = omega arith
