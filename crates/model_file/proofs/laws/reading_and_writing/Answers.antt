use Rattle.std.proofs.Common.{◌≡◌, ◌≢◌, ◌⊎◌, inl, inr, refl, sym, ap, subst}
use Rattle.std.specs.Prelude.{Result, Ok, Err}
use Rattle.nano_spec.specs.Legal.{NotLegal}
use Rattle.nano_spec.specs.Matrix.{Matrix}
use Rattle.nano_spec.specs.Model.{NoModel}
use Rattle.nano_spec.proofs.Writing.{read_back}
use Rattle.model_file.specs.declared.fault.ModelFault.{ModelFault}
use Rattle.model_file.specs.declared.fault.ModelFault.TheVariants.{Memory, Refused}
use Rattle.model_file.specs.Fault.{ReadsModel, SaysNone, why_refused}
use Rattle.model_file.proofs.Rewritten.{written_again}
use Rattle.model_file.proofs.laws.reading_and_writing.Goals as goal

only : (m : Matrix) (answer : Result Matrix ModelFault) → ReadsModel (Ok m) answer → answer ≢ Err Memory → answer ≡ Ok m
only m (Ok n) h ne = ap Ok (sym (same m n h))
  where
    same : (m n : Matrix) → ◌≡◌ {A = Result Matrix NoModel} (Ok m) (Ok n) → m ≡ n
    same m n h = cc
only m (Err (Refused refusal)) h ne = none (why_refused refusal) h
  where
    none : (why : NoModel ⊎ NotLegal) → SaysNone (Ok m) why → Err (Refused refusal) ≡ Ok m
    none (inl why) h = cc
    none (inr why) h = absurd h
only m (Err Memory) h ne = absurd (ne refl)

pub returns-clause-read : goal.returns-clause-read
returns-clause-read c = λ m answer w h ne. only m answer (subst (λ (s : Result Matrix NoModel). ReadsModel s answer) (read_back m w.some w.most w.voxels) h) ne

pub returns-clause-written : goal.returns-clause-written
returns-clause-written c = λ bytes m bound h. written_again bytes m bound h
