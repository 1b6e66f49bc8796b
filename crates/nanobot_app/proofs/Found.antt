-- The results of reading files: no end of a call has status 0, at most one result is found, and one is.
use Rattle.std.proofs.Common.{codes, ◌≡◌, ◌==◌, ℕ, ◌+◌, ◌≤◌, List, [], Option, Some, None, Bool, true, false, refl, sym, ap, ◌∙◌, subst, nat_lt, length}
use Rattle.std.specs.Prelude.{ok_or, Result, Ok, Err, MatchOption, MatchResult, MatchBool, ⊤}
use Rattle.vox_geom.specs.declared.coordinate.Coord.{Coord}
use Rattle.nano_spec.specs.declared.commands.Command.{Command}
use Rattle.nano_spec.specs.declared.outcomes.Verdict.{Verdict}
use Rattle.nano_spec.specs.declared.system.Profile.{Profile}
use Rattle.nano_spec.specs.Cutting.{AreCommands, Decoding, NoTrace}
use Rattle.nano_spec.specs.Legal.{Legality, NotLegal}
use Rattle.nano_spec.specs.Matrix.{Matrix, empty}
use Rattle.nano_spec.specs.Model.{model, volume}
use Rattle.nano_spec.specs.Reading.{FaultyLine, read}
use Rattle.nano_spec.specs.Verdict.{VerdictOf}
use Rattle.group_planner.specs.Bounds.{most_bytes}
use Rattle.group_planner.specs.Rows.{rows, runs}
use Rattle.low_planner.specs.Supported.{FirstUnsupported}
use Rattle.step_debugger.specs.Session.{DebugLine, opened}
use Rattle.debug_script.specs.Script.{ScriptSays}
use Rattle.debug_script.specs.Sessions.{Prints}
use Rattle.vox_depot.specs.Files.{Files, content}
use Rattle.nanobot_rows.specs.declared.report.Who.{Who}
use Rattle.nanobot_rows.specs.declared.report.Who.TheVariants as who
use Rattle.nanobot_rows.specs.declared.status.Status.{Status}
use Rattle.nanobot_rows.specs.declared.status.Status.TheVariants as is
use Rattle.plan_choice.specs.Planners.{byte_limit}
use Rattle.nanobot_rows.specs.Answer.{Answers, CanPlan, DecodingOf, FileOf, FileUpTo, Finding, Found, LegalOf, ModelOf, ModelsOf, OfResult, Reply, ScriptOf, TextOf, TraceOf, Upon, With, script_limit}
use Rattle.nanobot_rows.specs.Lines.{group_long_line, no_model_line, not_legal_line, resolutions_line, long_line, trace_line, long_line, unsupported_line}
use Rattle.nanobot_rows.specs.Report.{faulty_text_line}
use Rattle.nanobot_words.specs.declared.planner.Planner.{Planner}
use Rattle.nanobot_words.specs.declared.planner.Planner.TheVariants.{Layer, Group, Crew, Void, Low, Swarm}
use Rattle.nanobot_words.specs.Rows.{HasName}
use Rattle.nanobot_rows.proofs.Replies.{Alike}
use Rattle.nanobot_app.proofs.Decodings.{decoding_of}
use Rattle.nanobot_app.proofs.SomeVerdict.{legality_of}

-- ---- facts determined by the definitions

-- each of them is unique
pub record SayOne : Type 0 where
  pub legality : (m : Matrix) (a b : Option NotLegal) → Legality m a → Legality m b → a ≡ b
  pub decoding : (bytes : List ℕ) (a b : Result (List Command) NoTrace) → Decoding bytes a → Decoding bytes b → a ≡ b
  pub verdicts : (source target : Matrix) (commands : List Command) (profile : Profile) (v w : Verdict)
      → VerdictOf source target commands profile v → VerdictOf source target commands profile w → v ≡ w
  pub unsupported : (m : Matrix) (a b : Option Coord) → FirstUnsupported m a → FirstUnsupported m b → a ≡ b
  pub scripts : (r : ℕ) (bytes : List ℕ) (a b : Result (List DebugLine) FaultyLine) → ScriptSays r bytes a
      → ScriptSays r bytes b → a ≡ b
  pub sessions : (source : Matrix) (profile : Profile) (commands : List Command) (script : List DebugLine)
      (a b : List ℕ) → Prints commands script (opened source profile) a
      → Prints commands script (opened source profile) b → a ≡ b

-- the model of bytes is whole, each script has a reading, and each session a text
pub record SaySome : Type 0 where
  pub some : (bytes : List ℕ) (m : Matrix) → model bytes ≡ Ok m → 1 ≤ m.resolution
  pub whole : (bytes : List ℕ) (m : Matrix) → model bytes ≡ Ok m → length m.voxels ≡ volume m.resolution
  pub scripts : (r : ℕ) (bytes : List ℕ) → (said : Result (List DebugLine) FaultyLine) × ScriptSays r bytes said
  pub texts : (source : Matrix) (profile : Profile) (commands : List Command) (script : List DebugLine)
      → 1 ≤ source.resolution → length source.voxels ≡ volume source.resolution → AreCommands commands
      → (text : List ℕ) × Prints commands script (opened source profile) text

-- ---- results of reading

-- another status than 0
abbrev IsOther : Status → Type 0
IsOther status = status ≡ is.Done → ⊥

depot_other : IsOther is.Depot
depot_other e = cc

model_other : IsOther is.Model
model_other e = cc

trace_other : IsOther is.Trace
trace_other e = cc

text_other : IsOther is.Text
text_other e = cc

unsupported_other : IsOther is.Unsupported
unsupported_other e = cc

-- a value, or an end with another status than 0
abbrev pub IsFine : {A : Type 0} → Found A → Type 0
IsFine found = MatchResult found (λ _. ⊤) (λ end. IsOther end.0)

-- no end has status 0, at most one thing is found, and, if there may be something, something is
pub record IsOnce (may : Type 0) {A : Type 0} (X : Finding A) : Type 0 where
  pub fine : (files : Files) (found : Found A) → X files found → IsFine found
  pub one : SayOne → (files : Files) (a b : Found A) → X files a → X files b → a ≡ b
  pub some : SaySome → may → (files : Files) → (found : Found A) × X files found

module _ (may : Type 0) {A : Type 0} where
  plain : (f : Files → Found A) → ((files : Files) → IsFine (f files)) → IsOnce may (λ files found. found ≡ f files)
  plain f fine = record {
    fine = λ files found e. subst IsFine (sym e) (fine files);
    one = λ laws files a b h k. h ∙ sym k;
    some = λ laws there files. (f files, refl);
  }

  choice : (t : Bool) (x y : Found A) → IsFine x → IsFine y
      → IsOnce may (λ files found. MatchBool t (found ≡ x) (found ≡ y))
  choice true x y fine fine' = plain (λ _. x) (λ _. fine)
  choice false x y fine fine' = plain (λ _. y) (λ _. fine')

  optional : {C : Type 0} (o : Option C) (x : Found A) (y : C → Found A) → IsFine x → ((c : C) → IsFine (y c))
      → IsOnce may (λ files found. MatchOption o (found ≡ x) (λ c. found ≡ y c))
  optional None x y fine fine' = plain (λ _. x) (λ _. fine)
  optional (Some c) x y fine fine' = plain (λ _. y c) (λ _. fine' c)

  of_result : {W : Type 0} (status : Status) (line : W → List ℕ) (said : Result A W) → IsOther status
      → IsOnce may (OfResult status line said)
  of_result status line (Ok a) other = plain (λ _. Ok a) (λ _. tt)
  of_result status line (Err why) other = plain (λ _. Err (status, line why)) (λ _. other)

  -- the consequences of the definitions
  of_said : {W : Type 0} (says : W → Type 0) (X : W → Finding A) → (SayOne → (v w : W) → says v → says w → v ≡ w)
      → (SaySome → may → (w : W) × says w) → ((w : W) → IsOnce may (X w))
      → IsOnce may (λ files found. (w : W) × says w × X w files found)
  of_said says X one some each = record {
    fine = λ files found h. (each h.0).fine files found h.2;
    one = λ laws files a b h k. (each k.0).one laws files a b (subst (λ w. X w files a) (one laws h.0 k.0 h.1 k.1) h.2) k.2;
    some = λ laws there files. let some_here = some laws there in let found = (each some_here.0).some laws there files in (found.0, (some_here.0, some_here.1, found.1));
  }

module _ (may : Type 0) {A B : Type 0} (X : Finding A) (p : A → Finding B) where
  abbrev Then : Found A → Finding B
  Then first files found = MatchResult first (λ a. p a files found) (λ end. found ≡ Err end)

  with_once : IsOnce may X → ((a : A) → IsOnce may (p a)) → IsOnce may (With X p)
  with_once it each = record {
    fine = λ files found h. (next h.0 (it.fine files h.0 h.1)).fine files found h.2;
    one = λ laws files a b h k. (next k.0 (it.fine files k.0 k.1)).one laws files a b (subst (λ (x : Found A). Then x files a) (it.one laws files h.0 k.0 h.1 k.1) h.2) k.2;
    some = λ laws there files.
        let first = it.some laws there files in
        let found = (next first.0 (it.fine files first.0 first.1)).some laws there files in
        (found.0, (first.0, first.1, found.1));
  }
    where
      next : (first : Found A) → IsFine first → IsOnce may (Then first)
      next (Ok a) fine = each a
      next (Err end) fine = plain may (λ _. Err end) (λ _. fine)

-- ---- results of each kind

module _ (may : Type 0) where
  file_once : (name : List ℕ) → IsOnce may (FileOf name)
  file_once name = plain may (λ files. ok_or (content files name) (is.Depot, [])) (λ files. fine (content files name))
    where
      fine : (o : Option (List ℕ)) → IsFine {A = List ℕ} (ok_or o (is.Depot, []))
      fine None = depot_other
      fine (Some bytes) = tt

  up_to_once : (limit : ℕ) (status : Status) (line name : List ℕ) → IsOther status
      → IsOnce may (FileUpTo limit status line name)
  up_to_once limit status line name other =
      with_once may (FileOf name) (λ bytes _ found. MatchBool (nat_lt limit (length bytes)) (found ≡ Err (status, line)) (found ≡ Ok bytes)) (file_once name)
      (λ bytes. choice may (nat_lt limit (length bytes)) (Err (status, line)) (Ok bytes) other tt)

  legal_once : (w : Who) (m : Matrix) → IsOnce may (LegalOf w m)
  legal_once w m =
      of_said may (Legality m) (λ why files found. MatchOption why (found ≡ Ok m) (λ y. found ≡ Err (is.Model, not_legal_line w y))) (λ laws. laws.legality m) (λ _ _. legality_of m)
      (λ why. optional may why (Ok m) (λ y. Err (is.Model, not_legal_line w y)) tt (λ _. model_other))

  pub model_once : (w : Who) (name : List ℕ) → IsOnce may (ModelOf w name)
  model_once w name =
      with_once may (FileOf name) (λ bytes. With (OfResult is.Model (no_model_line w) (model bytes)) (LegalOf w)) (file_once name)
      (λ bytes. with_once may (OfResult is.Model (no_model_line w) (model bytes)) (LegalOf w) (of_result may is.Model (no_model_line w) (model bytes) model_other) (legal_once w))

  pub trace_once : (limit : ℕ) (name : List ℕ) → IsOnce may (TraceOf limit name)
  trace_once limit name =
      with_once may (FileUpTo limit is.Trace (long_line (codes "trace") limit) name) DecodingOf (up_to_once limit is.Trace (long_line (codes "trace") limit) name trace_other)
      (λ bytes. of_said may (Decoding bytes) (OfResult is.Trace trace_line) (λ laws. laws.decoding bytes) (λ _ _. decoding_of bytes) (λ decoding. of_result may is.Trace trace_line decoding trace_other))

  pub text_once : (name : List ℕ) → IsOnce may (TextOf name)
  text_once name =
      with_once may (FileUpTo byte_limit is.Text (long_line (codes "text") byte_limit) name) (λ bytes. OfResult is.Text faulty_text_line (read bytes))
      (up_to_once byte_limit is.Text (long_line (codes "text") byte_limit) name text_other) (λ bytes. of_result may is.Text faulty_text_line (read bytes) text_other)

  pub script_once : (r : ℕ) (name : List ℕ) → IsOnce may (ScriptOf r name)
  script_once r name =
      with_once may (FileUpTo script_limit is.Text (long_line (codes "text") script_limit) name)
      (λ bytes files found. (said : Result (List DebugLine) FaultyLine) × ScriptSays r bytes said × OfResult is.Text faulty_text_line said files found)
      (up_to_once script_limit is.Text (long_line (codes "text") script_limit) name text_other)
      (λ bytes. of_said may (ScriptSays r bytes) (OfResult is.Text faulty_text_line) (λ laws. laws.scripts r bytes) (λ laws _. laws.scripts r bytes) (λ said. of_result may is.Text faulty_text_line said text_other))

-- the models of a source and a target, of which one at least has a file wherever something may be found
pub models_once : (may : Type 0) (source target : Option (List ℕ)) → (may → HasName source target)
    → IsOnce may (ModelsOf source target)
models_once may None None named = record { fine = λ files found h. absurd h; one = λ laws files a b h k. absurd h; some = λ laws there. absurd (named there) }
models_once may (Some source) None named =
    with_once may (ModelOf who.Source source) (λ s _ both. both ≡ Ok (s, empty s.resolution)) (model_once may who.Source source) (λ s. plain may (λ _. Ok (s, empty s.resolution)) (λ _. tt))
models_once may None (Some target) named =
    with_once may (ModelOf who.Target target) (λ t _ both. both ≡ Ok (empty t.resolution, t)) (model_once may who.Target target) (λ t. plain may (λ _. Ok (empty t.resolution, t)) (λ _. tt))
models_once may (Some source) (Some target) named =
    with_once may (ModelOf who.Source source) (λ s. With (ModelOf who.Target target) (Alike s)) (model_once may who.Source source)
    (λ s. with_once may (ModelOf who.Target target) (Alike s) (model_once may who.Target target)
    (λ t. choice may (s.resolution == t.resolution) (Ok (s, t)) (Err (is.Model, resolutions_line s.resolution t.resolution)) tt model_other))

-- no law states that some part of a target is unsupported or that none is, so nothing here states that an end is found
pub plan_once : (planner : Planner) (source target : Matrix) → IsOnce ⊥ (CanPlan planner source target)
plan_once Layer source target = plain ⊥ (λ _. Ok tt) (λ _. tt)
plan_once Group source target =
    let long : Status × List ℕ = (is.Model, group_long_line (runs source + runs target) (rows source + rows target)) in
    choice ⊥ (nat_lt byte_limit (most_bytes source target)) (Err long) (Ok tt) model_other tt
plan_once Crew source target = plain ⊥ (λ _. Ok tt) (λ _. tt)
plan_once Void source target = plain ⊥ (λ _. Ok tt) (λ _. tt)
plan_once Low source target =
    of_said ⊥ (FirstUnsupported target) (λ at files found. MatchOption at (found ≡ Ok tt) (λ c. found ≡ Err (is.Unsupported, unsupported_line c))) (λ laws. laws.unsupported target) (λ _ never. absurd never)
    (λ at. optional ⊥ at (Ok tt) (λ c. Err (is.Unsupported, unsupported_line c)) tt (λ _. unsupported_other))
plan_once Swarm source target = plain ⊥ (λ _. Ok tt) (λ _. tt)

-- an answer with status 0 comes from a value that was found
pub done_says : {A : Type 0} (X : Finding A) (p : A → Answers) (files : Files) (reply : Reply)
    → ((files : Files) (found : Found A) → X files found → IsFine found) → reply.status ≡ is.Done → Upon X p files reply
    → (a : A) × X files (Ok a) × p a files reply
done_says {A} X p files reply fine done h = by h.0 h.1 h.2
  where
    by : (x : Found A) → X files x
        → MatchResult x (λ a. p a files reply) (λ end. reply ≡ record { status = end.0; line = end.1; after = files })
        → (a : A) × X files (Ok a) × p a files reply
    by (Ok a) x rest = (a, x, rest)
    by (Err end) x e = absurd (fine files (Err end) x (sym (ap (λ (r : Reply). r.status) e) ∙ done))
