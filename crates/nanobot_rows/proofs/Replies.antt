-- The values and answers after more files were read.
use Rattle.std.proofs.Common.{◌≡◌, ◌==◌, ◌≢◌, ℕ, ◌≤◌, List, [], refl, sym, ap, subst, inl, inr, arith, Bool, true, false, ◌∙◌}
use Rattle.std.specs.Result.{result_map_both}
use Rattle.std.specs.Prelude.{Option, Some, None, Result, Ok, Err, MatchOption, MatchResult, MatchBool, IfSome, IsSomeAnd}
use Rattle.vox_geom.proofs.Tests.{equal_by_test, test_equal, test_unequal}
use Rattle.nano_spec.specs.declared.outcomes.Verdict.{Verdict}
use Rattle.nano_spec.specs.declared.outcomes.Verdict.TheVariants as verdict
use Rattle.nano_spec.specs.Legal.{IsLegal, Legality, NotLegal}
use Rattle.nano_spec.specs.Matrix.{Matrix, empty}
use Rattle.nano_spec.specs.Model.{NoModel, model}
use Rattle.vox_depot.specs.Causes.{Rose}
use Rattle.vox_depot.specs.Files.{Files, content}
use Rattle.nanobot_rows.specs.declared.report.Report.{Report}
use Rattle.nanobot_rows.specs.declared.report.Who.{Who}
use Rattle.nanobot_rows.specs.declared.report.Who.TheVariants as who
use Rattle.nanobot_rows.specs.declared.status.Status.{Status}
use Rattle.nanobot_rows.specs.declared.status.Status.TheVariants as is
use Rattle.nanobot_rows.specs.declared.stop.Stop.{Stop}
use Rattle.nanobot_rows.specs.declared.stop.Stop.TheVariants as stop
use Rattle.nanobot_words.specs.Rows.{HasName}
use Rattle.nanobot_rows.specs.Answer.{Answers, FileOf, Finding, Found, LegalOf, ModelOf, ModelsOf, OfResult, Reply, TellsVerdict, Upon, With}
use Rattle.nanobot_rows.specs.Lines.{no_model_line, not_legal_line, resolutions_line}
use Rattle.nanobot_rows.specs.Models.{AreModels, IsModelOf}
use Rattle.nanobot_rows.specs.Reading.{EndsUnstored, Finds, FindsAs, Settles, end_of, reply_of, reply_to}
use Rattle.nanobot_rows.specs.Effects.{EndsStored, alone}
use Rattle.nanobot_rows.specs.Report.{of_verdict}
use Rattle.nanobot_rows.proofs.Told.{file_found, finds_file, weaker, weaker_and}

-- ---- counts of faults

pub rose_since : (a b c : ℕ) → a ≤ b → Rose b c → Rose a c
rose_since a b c l h = omega (arith, h)

-- ---- the results of a call

-- a stop, seen by another call
pub stops : {A B : Type 0} (X : Finding A) (Y : Finding B) (told : Option Files) (rose wider : Type 0) (s : Stop)
    → ((files : Files) (end : Status × List ℕ) → X files (Err end) → Y files (Err end)) → (rose → wider)
    → Finds X told rose (Err s) → Finds Y told wider (Err s)
stops X Y told rose wider (stop.Told r) ends since h = weaker told (λ files x. ends files (end_of r) x) h
stops X Y told rose wider stop.Depot ends since (inl h) = inl (since h)
stops X Y told rose wider stop.Depot ends since (inr h) = inr (weaker_and told (λ files x. ends files (is.Depot, []) x) h)
stops X Y told rose wider stop.Memory ends since h = tt

-- a stop of a call that has another view of its value
module _ {A V : Type 0} (view : V → A) (X : Finding A) (told : Option Files) (rose : Type 0) (s : Stop) where
  pub viewed : Finds X told rose (Err s) → FindsAs view X told rose (Err s)
  viewed = stops X (λ files found. X files (result_map_both view (λ end. end) found)) told rose rose s (λ files end h. h) (λ h. h)

  pub unviewed : FindsAs view X told rose (Err s) → Finds X told rose (Err s)
  unviewed = stops (λ files found. X files (result_map_both view (λ end. end) found)) X told rose rose s (λ files end h. h) (λ h. h)

pub both_told : {P Q R : Files → Type 0} (told : Option Files) → ((files : Files) → P files → Q files → R files)
    → IfSome told P → IfSome told Q → IfSome told R
both_told None f h k = tt
both_told (Some files) f h k = f files h k

and_told : {P Q R : Files → Type 0} (told : Option Files) → ((files : Files) → P files → Q files → R files)
    → IfSome told P → IsSomeAnd told Q → IsSomeAnd told R
and_told None f h k = absurd k
and_told (Some files) f h k = f files h k

-- the results of a call, as seen by one that knows more of the files
module _ {A : Type 0} (X Y : Finding A) (P : Files → Type 0) (more : (files : Files) → P files → (found : Found A) → X files found → Y files found) where
  widens : (told : Option Files) (rose wider : Type 0) (r : Result A Stop) → IfSome told P → (rose → wider)
      → Finds X told rose r → Finds Y told wider r
  widens told rose wider (Ok a) known since h = both_told told (λ files k x. more files k (Ok a) x) known h
  widens told rose wider (Err (stop.Told r)) known since h = both_told told (λ files k x. more files k (Err (end_of r)) x) known h
  widens told rose wider (Err stop.Depot) known since (inl h) = inl (since h)
  widens told rose wider (Err stop.Depot) known since (inr h) = inr (and_told told (λ files k x. more files k (Err (is.Depot, [])) x) known h)
  widens told rose wider (Err stop.Memory) known since h = tt

  -- the same later
  pub widens_since : (told later : Option Files) (before between now : ℕ) (r : Result A Stop) → IfSome told P
      → later ≡ told → before ≤ between → Finds X later (Rose between now) r → Finds Y told (Rose before now) r
  widens_since told later before between now r known same l h =
      widens told (Rose between now) (Rose before now) r known (rose_since before between now l) (subst (λ (o : Option Files). Finds X o (Rose between now) r) same h)

-- ---- one finding after another

module _ {A B : Type 0} (X : Finding A) (p : A → Finding B) where
  pub with_found : (a : A) (told later : Option Files) (before between now : ℕ) (r : Result B Stop)
      → IfSome told (λ files. X files (Ok a)) → later ≡ told → before ≤ between → Finds (p a) later (Rose between now) r
      → Finds (With X p) told (Rose before now) r
  with_found a = widens_since (p a) (With X p) (λ files. X files (Ok a)) (λ files h found rest. (Ok a, h, rest))

  -- a value that is found depends on one that was found first
  pub with_ok : (files : Files) (b : B) → With X p files (Ok b) → (a : A) × X files (Ok a) × p a files (Ok b)
  with_ok files b h = by h.0 h.1 h.2
    where
      by : (first : Found A) → X files first → MatchResult first (λ a. p a files (Ok b)) (λ end. Ok b ≡ Err end)
          → (a : A) × X files (Ok a) × p a files (Ok b)
      by (Ok a) x rest = (a, x, rest)
      by (Err end) x rest = absurd (cc)

-- the stop of a call is answered
pub says_stops : {A V : Type 0} (X : Finding A) (answers : Answers) (reply : Files → V → Reply)
    → ((files : Files) (end : Status × List ℕ) → X files (Err end)
    → answers files (record { status = end.0; line = end.1; after = files })) → (told : Option Files) (rose : Type 0)
    (s : Stop) → Finds X told rose (Err s) → Settles reply answers told rose (Err s)
says_stops X answers reply ends told rose s = stops X (λ files found. answers files (reply_to reply files found)) told rose rose s ends (λ h. h)

-- the results after a value that was found are the answer
pub says_found : {A V : Type 0} (X : Finding A) (p : A → Answers) (reply : Files → V → Reply) (a : A)
    (told later : Option Files) (before between now : ℕ) (r : Result V Stop) → IfSome told (λ files. X files (Ok a))
    → later ≡ told → before ≤ between → Settles reply (p a) later (Rose between now) r
    → Settles reply (Upon X p) told (Rose before now) r
says_found X p reply a = widens_since (λ files found. p a files (reply_to reply files found)) (λ files found. Upon X p files (reply_to reply files found)) (λ files. X files (Ok a)) (λ files h found rest. (Ok a, h, rest))

-- a report alone finishes as it ends
pub ends_finish : (answers : Answers) (told : Option Files) (rose : Type 0) (r : Result Report Stop)
    → EndsUnstored answers told rose r → EndsStored answers told rose (alone r)
ends_finish answers told rose (Ok report) h = h
ends_finish answers told rose (Err (stop.Told report)) h = h
ends_finish answers told rose (Err stop.Depot) h = h
ends_finish answers told rose (Err stop.Memory) h = h

-- ---- models

module _ (who : Who) (files : Files) (name : List ℕ) (m : Matrix) where
  abbrev Said : List ℕ → Finding Matrix
  Said bytes = OfResult is.Model (no_model_line who) (model bytes)

  -- a file of a legal model has it as its result
  pub finds_model : IsModelOf files name m → ModelOf who name files (Ok m)
  finds_model is_model = by (content files name) refl is_model
    where
      by : (o : Option (List ℕ)) → content files name ≡ o → IsSomeAnd o (λ bytes. (model bytes ≡ Ok m) × IsLegal m)
          → ModelOf who name files (Ok m)
      by None e h = absurd h
      by (Some bytes) e h = (
        Ok bytes,
        finds_file files name bytes e,
        (Ok m, sym (ap (λ (r : Result Matrix NoModel). result_map_both (λ a. a) (λ why. (is.Model, no_model_line who why)) r) h.0), (None, h.1, refl)),
      )

  pub model_found : ModelOf who name files (Ok m) → IsModelOf files name m
  model_found h =
      let read = with_ok (FileOf name) (λ bytes. With (Said bytes) (LegalOf who)) files m h in
      let judged = with_ok (Said read.0) (LegalOf who) files m read.2 in
      subst (λ (o : Option (List ℕ)). IsSomeAnd o (λ bytes. (model bytes ≡ Ok m) × IsLegal m)) (sym (file_found files name read.0 read.1))
      (by (model read.0) judged.0 judged.1 judged.2.0 judged.2.1 judged.2.2)
    where
      by : (r : Result Matrix NoModel) (n : Matrix)
          → ◌≡◌ {A = Found Matrix} (Ok n) (result_map_both (λ a. a) (λ why. (is.Model, no_model_line who why)) r)
          → (why : Option NotLegal) → Legality n why → MatchOption why (◌≡◌ {A = Found Matrix} (Ok m) (Ok n))
          (λ w. ◌≡◌ {A = Found Matrix} (Ok m) (Err (is.Model, not_legal_line who w))) → (r ≡ Ok m) × IsLegal m
      by (Err none) n f why l g = absurd (cc)
      by (Ok k) n f (Some w) l g = absurd (cc)
      by (Ok k) n f None l g =
          let same : n ≡ m = cc in
          (cc, subst IsLegal same l)

-- of two names that are not both missing one is there
pub one_named : (source target : Option (List ℕ)) → (source ≡ None → target ≡ None → ⊥) → HasName source target
one_named None None h = h refl refl
one_named None (Some b) h = tt
one_named (Some a) target h = tt

-- the pairs of two values that were found are one
pair_is : (s t a b : Matrix) → ◌≡◌ {A = Found (Matrix × Matrix)} (Ok (s, t)) (Ok (a, b)) → (s ≡ a) × (t ≡ b)
pair_is s t a b e = let same : (s, t) ≡ (a, b) = cc in (ap (λ (x : Matrix × Matrix). x.0) same, ap (λ (x : Matrix × Matrix). x.1) same)

-- both models, if they are of one resolution
abbrev Choice : Matrix → Matrix → Bool → Found (Matrix × Matrix) → Type 0
Choice s t alike both = MatchBool alike (both ≡ Ok (s, t)) (both ≡ Err (is.Model, resolutions_line s.resolution t.resolution))

abbrev pub Alike : Matrix → Matrix → Finding (Matrix × Matrix)
Alike s t files both = Choice s t (s.resolution == t.resolution) both

module _ (s t : Matrix) (files : Files) where
  alike : s.resolution ≡ t.resolution → Alike s t files (Ok (s, t))
  alike e = subst (λ (b : Bool). Choice s t b (Ok (s, t))) (sym (test_equal s.resolution t.resolution e)) refl

  unlike : s.resolution ≢ t.resolution → Alike s t files (Err (is.Model, resolutions_line s.resolution t.resolution))
  unlike e = subst (λ (b : Bool). Choice s t b (Err (is.Model, resolutions_line s.resolution t.resolution))) (sym (test_unequal s.resolution t.resolution e)) refl

module _ (files : Files) where
  -- the models of a source and a target are found
  pub finds_models : (source target : Option (List ℕ)) (s t : Matrix) → HasName source target
      → AreModels source target files s t → ModelsOf source target files (Ok (s, t))
  finds_models None None s t named are = named
  finds_models (Some source) None s t named are = (Ok s, finds_model who.Source files source s are.source_is, ap (λ (m : Matrix). Ok (s, m)) are.target_is)
  finds_models None (Some target) s t named are = (Ok t, finds_model who.Target files target t are.target_is, ap (λ (m : Matrix). Ok (m, t)) are.source_is)
  finds_models (Some source) (Some target) s t named are =
      (Ok s, finds_model who.Source files source s are.source_is, (Ok t, finds_model who.Target files target t are.target_is, alike s t files are.alike))

  pub models_found : (source target : Option (List ℕ)) (s t : Matrix) → ModelsOf source target files (Ok (s, t))
      → AreModels source target files s t
  models_found None None s t h = absurd h
  models_found (Some source) None s t h =
      let one = with_ok (ModelOf who.Source source) (λ m _ both. both ≡ Ok (m, empty m.resolution)) files (s, t) h in
      let are = pair_is s t one.0 (empty one.0.resolution) one.2 in
      record {
        source_is = subst (λ (m : Matrix). IsModelOf files source m) (sym are.0) (model_found who.Source files source one.0 one.1);
        target_is = are.1 ∙ ap (λ (m : Matrix). empty m.resolution) (sym are.0);
        alike = ap (λ (m : Matrix). m.resolution) are.0 ∙ ap (λ (m : Matrix). m.resolution) (sym are.1);
      }
  models_found None (Some target) s t h =
      let one = with_ok (ModelOf who.Target target) (λ m _ both. both ≡ Ok (empty m.resolution, m)) files (s, t) h in
      let are = pair_is s t (empty one.0.resolution) one.0 one.2 in
      record {
        source_is = are.0 ∙ ap (λ (m : Matrix). empty m.resolution) (sym are.1);
        target_is = subst (λ (m : Matrix). IsModelOf files target m) (sym are.1) (model_found who.Target files target one.0 one.1);
        alike = ap (λ (m : Matrix). m.resolution) are.0 ∙ ap (λ (m : Matrix). m.resolution) (sym are.1);
      }
  models_found (Some source) (Some target) s t h =
      let one = with_ok (ModelOf who.Source source) (λ a. With (ModelOf who.Target target) (Alike a)) files (s, t) h in
      let two = with_ok (ModelOf who.Target target) (Alike one.0) files (s, t) one.2 in
      by one.0 two.0 (model_found who.Source files source one.0 one.1) (model_found who.Target files target two.0 two.1) (one.0.resolution == two.0.resolution) refl two.2
    where
      by : (a b : Matrix) → IsModelOf files source a → IsModelOf files target b → (same : Bool)
          → (a.resolution == b.resolution) ≡ same → Choice a b same (Ok (s, t))
          → AreModels (Some source) (Some target) files s t
      by a b first second false test e = absurd (cc)
      by a b first second true test e =
          let are = pair_is s t a b e in
          record {
            source_is = subst (λ (m : Matrix). IsModelOf files source m) (sym are.0) first;
            target_is = subst (λ (m : Matrix). IsModelOf files target m) (sym are.1) second;
            alike = ap (λ (m : Matrix). m.resolution) are.0 ∙ (equal_by_test a.resolution b.resolution test ∙ ap (λ (m : Matrix). m.resolution) (sym are.1));
          }

-- ---- two models that are loaded, each of its file

module _ (source target : List ℕ) (told : Option Files) where
  abbrev Reads : Type 0 → Result (Matrix × Matrix) Stop → Type 0
  Reads rose result = Finds (ModelsOf (Some source) (Some target)) told rose result

  pub source_stops : (rose : Type 0) (x : Stop) → Finds (ModelOf who.Source source) told rose (Err x)
      → Reads rose (Err x)
  source_stops rose x = stops (ModelOf who.Source source) (ModelsOf (Some source) (Some target)) told rose rose x (λ files end h. (Err end, h, refl)) (λ h. h)

  module _ (s : Matrix) (first : IfSome told (λ files. ModelOf who.Source source files (Ok s))) (later : Option Files) (same : later ≡ told) where
    pub target_stops : (before between now : ℕ) (x : Stop) → before ≤ between
        → Finds (ModelOf who.Target target) later (Rose between now) (Err x) → Reads (Rose before now) (Err x)
    target_stops before between now x l h =
        with_found (ModelOf who.Source source) (λ a. With (ModelOf who.Target target) (Alike a)) s told later before between now (Err x) first same l
        (stops (ModelOf who.Target target) (With (ModelOf who.Target target) (Alike s)) later (Rose between now) (Rose between now) x (λ files end e. (Err end, e, refl)) (λ h. h) h)

    module _ (t : Matrix) (second : IfSome later (λ files. ModelOf who.Target target files (Ok t))) where
      of_both : (found : Found (Matrix × Matrix)) → ((files : Files) → Alike s t files found)
          → IfSome told (λ files. ModelsOf (Some source) (Some target) files found)
      of_both found h = both_told told (λ files x y. (Ok s, x, (Ok t, y, h files))) first (subst (λ (o : Option Files). IfSome o (λ files. ModelOf who.Target target files (Ok t))) same second)

      pub both_alike : s.resolution ≡ t.resolution
          → IfSome told (λ files. ModelsOf (Some source) (Some target) files (Ok (s, t)))
      both_alike e = of_both (Ok (s, t)) (λ files. alike s t files e)

      pub both_unlike : (r q : ℕ) → r ≡ s.resolution → q ≡ t.resolution → r ≢ q
          → IfSome told (λ files. ModelsOf (Some source) (Some target) files (Err (is.Model, resolutions_line r q)))
      both_unlike r q r_is q_is differ =
          subst (λ (end : Status × List ℕ). IfSome told (λ files. ModelsOf (Some source) (Some target) files (Err end))) (λ i. (is.Model, resolutions_line (sym r_is i) (sym q_is i)))
          (of_both (Err (is.Model, resolutions_line s.resolution t.resolution)) (λ files. unlike s t files (λ e. differ (r_is ∙ (e ∙ sym q_is)))))

-- ---- verdicts

-- the reply of a verdict is that of its report
abbrev pub verdict_reply : Files → Verdict → Reply
verdict_reply files v = reply_of files (of_verdict v)

pub verdict_told : (files : Files) (v : Verdict) (reply : Reply) → TellsVerdict v files reply
    → reply ≡ verdict_reply files v
verdict_told files (verdict.Accepted energy steps) reply told = told
verdict_told files (verdict.Refused broken) reply told = told

pub tells_verdict : (files : Files) (v : Verdict) (reply : Reply) → reply ≡ verdict_reply files v
    → TellsVerdict v files reply
tells_verdict files (verdict.Accepted energy steps) reply e = e
tells_verdict files (verdict.Refused broken) reply e = e
