-- The replies to a command: one reply, or replies of one status if it requests a plan, and some reply if it requests
-- none.
use Rattle.std.specs.FinMap as finite
use Rattle.std.proofs.Common.{◌≡◌, ℕ, ◌≤◌, List, Option, Some, None, refl, sym, ap, ◌∙◌, subst, length}
use Rattle.std.specs.Prelude.{Ok, Err, MatchResult, IsSomeAnd, ⊤}
use Rattle.nano_spec.specs.declared.commands.Command.{Command}
use Rattle.nano_spec.specs.declared.outcomes.Verdict.{Verdict}
use Rattle.nano_spec.specs.declared.system.Profile.{Profile}
use Rattle.nano_spec.specs.Cutting.{AreCommands}
use Rattle.nano_spec.specs.Legal.{IsLegal}
use Rattle.nano_spec.specs.Matrix.{Matrix, full_count}
use Rattle.nano_spec.specs.Model.{model, volume}
use Rattle.nano_spec.specs.Printing.{print}
use Rattle.nano_spec.specs.Profile.{full_profile}
use Rattle.nano_spec.specs.Spelling.{spellings}
use Rattle.step_debugger.specs.Session.{DebugLine}
use Rattle.vox_depot.specs.Files.{Files, content}
use Rattle.nanobot_rows.specs.declared.report.Who.TheVariants as who
use Rattle.nanobot_rows.specs.declared.status.Status.{Status}
use Rattle.nanobot_rows.specs.declared.status.Status.TheVariants as is
use Rattle.plan_choice.specs.Planners.{byte_limit}
use Rattle.nanobot_rows.specs.Answer.{AnswerOf, AnswerOfRun, Answers, CanPlan, Finding, Found, IsReply, ModelOf, ModelsOf, OfRun, OfSession, Reply, ScriptOf, Stores, StoresPlan, TextOf, TraceOf, Upon, dis_limit, facts_of}
use Rattle.nanobot_rows.specs.Lines.{legal_line, stored_line}
use Rattle.nanobot_words.specs.declared.planner.Planner.{Planner}
use Rattle.nanobot_words.specs.Rows.{HasName, asm, check, debug, dis, exercise, plan}
use Rattle.nanobot_rows.proofs.Replies.{model_found, tells_verdict, verdict_reply, verdict_told}
use Rattle.nanobot_app.proofs.Finding.{trace_found}
use Rattle.nanobot_app.proofs.Found.{IsOnce, SayOne, SaySome, model_once, models_once, plan_once, script_once, text_once, trace_once}
use Rattle.nanobot_app.proofs.SomeVerdict.{verdict_of}

-- ---- one reply, and some reply

-- all replies are one in this part, and, if there may be some reply, there is
pub record IsAnswered {A : Type 0} (part : Reply → A) (may : Type 0) (answers : Answers) : Type 0 where
  pub one : SayOne → (files : Files) (r s : Reply) → answers files r → answers files s → part r ≡ part s
  pub some : SaySome → may → (files : Files) → (reply : Reply) × answers files reply

module _ {A : Type 0} (part : Reply → A) (may : Type 0) where
  this : (f : Files → Reply) → IsAnswered part may (λ files reply. reply ≡ f files)
  this f = record { one = λ laws files r s h k. ap part (h ∙ sym k); some = λ laws there files. (f files, refl) }

  module _ {B : Type 0} (X : Finding B) (more : B → Type 0) (p : B → Answers) where
    -- the reply of an end
    abbrev ended : Files → Status × List ℕ → Reply
    ended files end = record { status = end.0; line = end.1; after = files }

    abbrev Follows : Files → Found B → Reply → Type 0
    Follows files x reply = MatchResult x (λ b. p b files reply) (λ end. reply ≡ ended files end)

    -- the consequences of the value may use the facts known if one is found
    upon_answered : IsOnce may X → (SaySome → may → (files : Files) (b : B) → X files (Ok b) → more b)
        → ((b : B) → IsAnswered part (more b) (p b)) → IsAnswered part may (Upon X p)
    upon_answered it known each = record {
      one = λ laws files r s h k. same laws files r s k.0 (subst (λ (x : Found B). Follows files x r) (it.one laws files h.0 k.0 h.1 k.1) h.2) k.2;
      some = λ laws there files. let first = it.some laws there files in some laws there files first.0 first.1;
    }
      where
        same : SayOne → (files : Files) (r s : Reply) (x : Found B) → Follows files x r → Follows files x s
            → part r ≡ part s
        same laws files r s (Ok b) h k = (each b).one laws files r s h k
        same laws files r s (Err end) h k = ap part (h ∙ sym k)

        some : SaySome → may → (files : Files) (x : Found B) → X files x → (reply : Reply) × Upon X p files reply
        some laws there files (Ok b) x = let reply = (each b).some laws (known laws there files b x) files in (reply.0, (Ok b, x, reply.1))
        some laws there files (Err end) x = (ended files end, (Err end, x, refl))

-- ---- rows that ask for no plan

abbrev pub IsRowAnswered : Type 0 → Answers → Type 0
IsRowAnswered may answers = IsAnswered {A = Reply} (λ r. r) may answers

of_run : (profile : Profile) (source target : Matrix) (commands : List Command)
    → IsRowAnswered ⊤ (OfRun profile source target commands)
of_run profile source target commands = record {
  one = λ laws files r s h k. verdict_told files h.0 r h.2 ∙ (ap (λ (v : Verdict). verdict_reply files v) (laws.verdicts source target commands profile h.0 k.0 h.1 k.1) ∙ sym (verdict_told files k.0 s k.2));
  some = λ laws there files. let the_verdict = verdict_of source target commands profile in (verdict_reply files the_verdict.0, (the_verdict.0, the_verdict.1, tells_verdict files the_verdict.0 (verdict_reply files the_verdict.0) refl));
}

pub run_answered : (profile : Profile) (source target : Option (List ℕ)) (trace : List ℕ)
    → IsRowAnswered (HasName source target) (AnswerOfRun profile source target trace)
run_answered profile source target trace =
    upon_answered (λ r. r) (HasName source target) (ModelsOf source target) (λ _. ⊤) (λ models. Upon (TraceOf byte_limit trace) (OfRun profile models.0 models.1)) (models_once (HasName source target) source target (λ named. named)) (λ _ _ _ _ _. tt)
    (λ models. upon_answered (λ r. r) ⊤ (TraceOf byte_limit trace) (λ _. ⊤) (OfRun profile models.0 models.1) (trace_once ⊤ byte_limit trace) (λ _ _ _ _ _. tt) (of_run profile models.0 models.1))

pub check_answered : (name : List ℕ) → IsRowAnswered ⊤ (AnswerOf (check name))
check_answered name =
    upon_answered (λ r. r) ⊤ (ModelOf who.Model name) (λ _. ⊤) (λ m. IsReply is.Done (legal_line m.resolution (full_count m))) (model_once ⊤ who.Model name) (λ _ _ _ _ _. tt)
    (λ m. this (λ r. r) ⊤ (λ files. record { status = is.Done; line = legal_line m.resolution (full_count m); after = files }))

-- a file is stored
stored : (line name bytes : List ℕ) → IsRowAnswered ⊤ (Stores line name bytes)
stored line name bytes = this (λ r. r) ⊤ (λ files. record { status = is.Done; line = line; after = finite.insert files name bytes })

pub asm_answered : (text trace : List ℕ) → IsRowAnswered ⊤ (AnswerOf (asm text trace))
asm_answered text trace =
    upon_answered (λ r. r) ⊤ (TextOf text) (λ _. ⊤) (λ commands. Stores (stored_line (length commands) (length (spellings commands))) trace (spellings commands)) (text_once ⊤ text) (λ _ _ _ _ _. tt)
    (λ commands. stored (stored_line (length commands) (length (spellings commands))) trace (spellings commands))

pub dis_answered : (trace text : List ℕ) → IsRowAnswered ⊤ (AnswerOf (dis trace text))
dis_answered trace text =
    upon_answered (λ r. r) ⊤ (TraceOf dis_limit trace) (λ _. ⊤) (λ commands. Stores (stored_line (length commands) (length (print commands))) text (print commands)) (trace_once ⊤ dis_limit trace) (λ _ _ _ _ _. tt)
    (λ commands. stored (stored_line (length commands) (length (print commands))) text (print commands))

-- the source of a file is whole, as each model of bytes is
abbrev IsWhole : Matrix → Type 0
IsWhole m = (1 ≤ m.resolution) × (length m.voxels ≡ volume m.resolution)

is_whole : SaySome → (name : List ℕ) (files : Files) (m : Matrix) → ModelOf who.Source name files (Ok m) → IsWhole m
is_whole laws name files m h = by (content files name) (model_found who.Source files name m h)
  where
    by : (o : Option (List ℕ)) → IsSomeAnd o (λ bytes. (model bytes ≡ Ok m) × IsLegal m) → IsWhole m
    by None there = absurd there
    by (Some bytes) there = (laws.some bytes m there.0, laws.whole bytes m there.0)

-- the source is whole, and the commands are some
record CanOpen (m : Matrix) (commands : List Command) : Type 0 where
  pub whole : IsWhole m
  pub are : AreCommands commands

of_session : (m : Matrix) (commands : List Command) (lines : List DebugLine)
    → IsRowAnswered (CanOpen m commands) (OfSession m commands lines)
of_session m commands lines = record {
  one = λ laws files r s h k. h.2 ∙ (ap (λ (text : List ℕ). record { status = is.Done; line = text; after = files }) (laws.sessions m full_profile commands lines h.0 k.0 h.1 k.1) ∙ sym k.2);
  some = λ laws there files.
      let printed = laws.texts m full_profile commands lines there.whole.0 there.whole.1 there.are in
      (record { status = is.Done; line = printed.0; after = files }, (printed.0, printed.1, refl));
}

pub debug_answered : (source trace script : List ℕ) → IsRowAnswered ⊤ (AnswerOf (debug source trace script))
debug_answered source trace script =
    upon_answered (λ r. r) ⊤ (ModelOf who.Source source) IsWhole (λ m. Upon (TraceOf dis_limit trace) (λ commands. Upon (ScriptOf m.resolution script) (OfSession m commands))) (model_once ⊤ who.Source source)
    (λ laws _ files m found. is_whole laws source files m found) (λ m.
    upon_answered (λ r. r) (IsWhole m) (TraceOf dis_limit trace) (CanOpen m) (λ commands. Upon (ScriptOf m.resolution script) (OfSession m commands)) (trace_once (IsWhole m) dis_limit trace)
    (λ _ whole files commands found. record { whole = whole; are = (trace_found dis_limit files trace commands found).3.0 }) (λ commands.
    upon_answered (λ r. r) (CanOpen m commands) (ScriptOf m.resolution script) (λ _. CanOpen m commands) (OfSession m commands) (script_once (CanOpen m commands) m.resolution script) (λ _ there _ _ _. there) (of_session m commands)))

-- ---- commands that request plans: which one is free, and no law states that there is one

abbrev pub IsPlanAnswered : Answers → Type 0
IsPlanAnswered answers = IsAnswered (λ r. r.status) ⊥ answers

stores_plan : (planner : Planner) (name : List ℕ) (source target : Matrix)
    → IsPlanAnswered (StoresPlan (facts_of planner) name source target)
stores_plan planner name source target = record {
  one = λ laws files r s h k. ap (λ (x : Reply). x.status) h.4 ∙ sym (ap (λ (x : Reply). x.status) k.4);
  some = λ laws never. absurd never;
}

pub plan_answered : (planner : Planner) (source target : Option (List ℕ)) (trace : List ℕ)
    → IsPlanAnswered (AnswerOf (plan planner source target trace))
plan_answered planner source target trace =
    upon_answered (λ r. r.status) ⊥ (ModelsOf source target) (λ _. ⊥) (λ models. Upon (CanPlan planner models.0 models.1) (λ _. StoresPlan (facts_of planner) trace models.0 models.1)) (models_once ⊥ source target (λ never. absurd never)) (λ _ never _ _ _. never)
    (λ models. upon_answered (λ r. r.status) ⊥ (CanPlan planner models.0 models.1) (λ _. ⊥) (λ _. StoresPlan (facts_of planner) trace models.0 models.1) (plan_once planner models.0 models.1) (λ _ never _ _ _. never)
    (λ _. stores_plan planner trace models.0 models.1))

pub exercise_answered : (number resolution : ℕ) → IsPlanAnswered (AnswerOf (exercise number resolution))
exercise_answered number resolution = record {
  one = λ laws files r s h k. ap (λ (x : Reply). x.status) h.4 ∙ sym (ap (λ (x : Reply). x.status) k.4);
  some = λ laws never. absurd never;
}
