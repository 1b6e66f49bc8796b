-- The values found if the files are known.
use Rattle.std.proofs.Common.{◌≡◌, ◌⊎◌, inl, inr, ℕ, List, [], refl, sym, ◌∙◌, ap, subst, take}
use Rattle.std.specs.Prelude.{Option, Some, None, ok_or, Result, Ok, Err, IfSome, IsErrAnd, IsSomeAnd}
use Rattle.nano_spec.specs.Legal.{IsLegal, NotLegal}
use Rattle.nano_spec.specs.Matrix.{Matrix}
use Rattle.nano_spec.specs.Model.{NoModel, model}
use Rattle.model_file.specs.declared.fault.ModelFault.{ModelFault}
use Rattle.model_file.specs.declared.fault.ModelFault.TheVariants.{Memory, Refused}
use Rattle.model_file.specs.Fault.{IsNotLegal, Judges, ReadsModel, SaysNone, why_refused}
use Rattle.vox_depot.specs.Files.{Files, IfTold, IsMissing, content}
use Rattle.vox_depot.specs.declared.depot.FetchFault.{FetchFault}
use Rattle.vox_depot.specs.declared.depot.FetchFault.TheVariants as fetch
use Rattle.vox_depot.specs.declared.whole.LoadFault.{LoadFault}
use Rattle.vox_depot.specs.declared.whole.LoadFault.TheVariants as load
use Rattle.nanobot_rows.specs.declared.report.Who.{Who}
use Rattle.nanobot_rows.specs.declared.status.Status.TheVariants as is
use Rattle.nanobot_rows.specs.Answer.{FileOf, Finding, Found, LegalOf, ModelOf, OfResult, With}
use Rattle.nanobot_rows.specs.Lines.{no_model_line}
use Rattle.nanobot_rows.specs.Reading.{Finds, of_fault, of_fetch, of_load}
use Rattle.nanobot_rows.specs.Report.{refused_line}
use Rattle.nanobot_rows.proofs.Cut.{cut_is}

pub if_some : {A : Type 0} {P : A → Type 0} (o : Option A) → ((x : A) → o ≡ Some x → P x) → IfSome o P
if_some None h = tt
if_some (Some x) h = h x refl

pub weaker : {A : Type 0} {P Q : A → Type 0} (o : Option A) → ((x : A) → P x → Q x) → IfSome o P → IfSome o Q
weaker None f h = tt
weaker (Some x) f h = f x h

pub weaker_and : {A : Type 0} {P Q : A → Type 0} (o : Option A) → ((x : A) → P x → Q x) → IsSomeAnd o P → IsSomeAnd o Q
weaker_and None f h = absurd h
weaker_and (Some x) f h = f x h

pub told_weaker : (told : Option Files) (name : List ℕ) (P Q : List ℕ → Type 0) → ((file : List ℕ) → P file → Q file)
    → IfTold told name P → IfTold told name Q
told_weaker told name P Q f h = weaker told (λ files g. weaker_and (content files name) f g) h

pub err_is : {T E : Type 0} (r : Result T E) (e : E) → IsErrAnd r (λ x. x ≡ e) → r ≡ Err e
err_is (Ok a) e h = absurd h
err_is (Err x) e h = ap Err h

-- ---- files

-- a file that exists is found
module _ (files : Files) (name bytes : List ℕ) where
  pub finds_file : content files name ≡ Some bytes → FileOf name files (Ok bytes)
  finds_file e = sym (ap (λ (o : Option (List ℕ)). ok_or o (is.Depot, [])) e)

  pub file_found : FileOf name files (Ok bytes) → content files name ≡ Some bytes
  file_found h = by (content files name) h
    where
      by : (o : Option (List ℕ)) → ◌≡◌ {A = Found (List ℕ)} (Ok bytes) (ok_or o (is.Depot, [])) → o ≡ Some bytes
      by None e = absurd (cc)
      by (Some file) e = cc

-- facts of the bytes of a file
pub with_file : {Q : Files → Type 0} (told : Option Files) (name : List ℕ) (P : List ℕ → Type 0) → IfTold told name P
    → ((files : Files) (bytes : List ℕ) → told ≡ Some files → content files name ≡ Some bytes → P bytes → Q files)
    → IfSome told Q
with_file None name P h f = tt
with_file {Q} (Some files) name P h f = by (content files name) refl h
  where
    by : (o : Option (List ℕ)) → content files name ≡ o → IsSomeAnd o P → Q files
    by None e there = absurd there
    by (Some bytes) e there = f files bytes refl e there

-- a file that was not loaded ends the call
pub not_loaded : {A : Type 0} (X : Finding A) (told : Option Files) (name : List ℕ) (rose : Type 0)
    → ((files : Files) → FileOf name files (Err (is.Depot, [])) → X files (Err (is.Depot, []))) → (fault : LoadFault)
    → (fault ≡ load.Missing → IsMissing told name) → (fault ≡ load.Failed → rose)
    → Finds X told rose (Err (of_load fault))
not_loaded X told name rose gone load.Missing missing failed = inr (weaker_and told (λ files none. gone files (sym (ap (λ (o : Option (List ℕ)). ok_or o (is.Depot, [])) none))) (missing refl))
not_loaded X told name rose gone load.Failed missing failed = inl (failed refl)
not_loaded X told name rose gone load.Memory missing failed = tt

-- the same of a piece that was not fetched
pub not_fetched : {A : Type 0} (X : Finding A) (told : Option Files) (name : List ℕ) (rose : Type 0)
    → ((files : Files) → FileOf name files (Err (is.Depot, [])) → X files (Err (is.Depot, []))) → (fault : FetchFault)
    → (fault ≡ fetch.Missing → IsMissing told name) → (fault ≡ fetch.Failed → rose)
    → Finds X told rose (Err (of_fetch fault))
not_fetched X told name rose gone fetch.Missing missing failed = not_loaded X told name rose gone load.Missing (λ _. missing refl) (λ e. absurd (cc))
not_fetched X told name rose gone fetch.Failed missing failed = inl (failed refl)

-- ---- models

-- the loaded bytes have the content of the file
module _ (told : Option Files) (name v : List ℕ) (loaded : IfTold told name (λ file. v ≡ take 256000008 file)) (who : Who) where
  says : IfTold told name (λ file. model file ≡ model v)
  says = told_weaker told name _ _ (λ file e. sym (cut_is file) ∙ ap model (sym e)) loaded

  -- the results for their model are found
  said : (r : Result Matrix NoModel) (found : Found Matrix) → model v ≡ r
      → ((files : Files) → With (OfResult is.Model (no_model_line who) r) (LegalOf who) files found)
      → IfSome told (λ files. ModelOf who name files found)
  said r found e h = with_file told name (λ file. model file ≡ model v) says (λ files bytes _ there same.
      (Ok bytes, finds_file files name bytes there, subst (λ (x : Result Matrix NoModel). With (OfResult is.Model (no_model_line who) x) (LegalOf who) files found) (sym (same ∙ e)) (h files)))

  -- a legal model
  pub found : (m : Matrix) → model v ≡ Ok m → IsLegal m → IfSome told (λ files. ModelOf who name files (Ok m))
  found m e h = said (Ok m) (Ok m) e (λ files. (Ok m, refl, (None, h, refl)))

  module _ (rose : Type 0) where
    pub not_read : (f : ModelFault) → ReadsModel (model v) (Err f)
        → Finds (ModelOf who name) told rose (Err (of_fault who f))
    not_read Memory h = tt
    not_read (Refused refusal) h = by (why_refused refusal) refl h
      where
        by : (why : NoModel ⊎ NotLegal) → why_refused refusal ≡ why → SaysNone (model v) why
            → IfSome told (λ files. ModelOf who name files (Err (is.Model, refused_line who (why_refused refusal))))
        by (inl why) e h = said (Err why) (Err (is.Model, refused_line who (why_refused refusal))) h (λ files. (Err (is.Model, no_model_line who why), refl, ap (λ (w : NoModel ⊎ NotLegal). Err (is.Model, refused_line who w)) e))
        by (inr why) e h = absurd h

    pub not_lawful : (m : Matrix) (f : ModelFault) → model v ≡ Ok m → Judges m (Err f)
        → Finds (ModelOf who name) told rose (Err (of_fault who f))
    not_lawful m Memory same h = tt
    not_lawful m (Refused refusal) same h = by (why_refused refusal) refl h
      where
        by : (why : NoModel ⊎ NotLegal) → why_refused refusal ≡ why → IsNotLegal m why
            → IfSome told (λ files. ModelOf who name files (Err (is.Model, refused_line who (why_refused refusal))))
        by (inl why) e h = absurd h
        by (inr why) e h = said (Ok m) (Err (is.Model, refused_line who (why_refused refusal))) same (λ files. (Ok m, refl, (Some why, h, ap (λ (w : NoModel ⊎ NotLegal). Err (is.Model, refused_line who w)) e)))
