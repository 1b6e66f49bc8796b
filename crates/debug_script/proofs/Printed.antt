-- A session printed line by line.
use Rattle.std.proofs.Common.{◌≡◌, ◌<◌, ◌∙◌, ℕ, suc, ◌+◌, arith, ap, drop, get_or, length, List, [], ◌∷◌, ◌++◌, flat_map, false, refl, sym, subst, Ok, Err}
use Rattle.std.specs.Prelude.{IsSomeAnd, OnOk, Option, Some, None, Result}
use Rattle.std.proofs.Math.Seq.{drop-cons}
use Rattle.std.proofs.lemmas.List.{append_assoc, append-nil}
use Rattle.nano_spec.specs.declared.commands.Command.{Command}
use Rattle.nano_spec.specs.declared.system.Bot.{Bot}
use Rattle.nano_spec.specs.State.{State}
use Rattle.step_debugger.specs.Debugging.{Debugging}
use Rattle.step_debugger.specs.Session.{AnswersLine, Bots, Crew, DebugLine, Session, middle_state}
use Rattle.debug_script.specs.Calls.{script_line_is, lines_are}
use Rattle.debug_script.specs.declared.line.ScriptLine.{ScriptLine}
use Rattle.debug_script.specs.Printing.{bot_line, printed_report}
use Rattle.debug_script.specs.Sessions.{IsTold, Prints}

-- the active bots were printed
pub told_bots : {E : Type 0} (d : Debugging) (crew : List Bot) (before after : List ℕ) (r : Result Unit E)
    → d.spent ≡ false → IsSomeAnd (middle_state d.commands d.session) (λ m. crew ≡ m.bots)
    → OnOk r (after ≡ before ++ flat_map bot_line crew) → OnOk r (IsTold Bots d d before after)
told_bots d crew before after (Err e) stands middle put = tt
told_bots d crew before after (Ok u) stands middle put = by (middle_state d.commands d.session) refl middle
  where
    by : (o : Option State) → middle_state d.commands d.session ≡ o → IsSomeAnd o (λ m. crew ≡ m.bots)
        → IsTold Bots d d before after
    by None e h = absurd h
    by (Some m) e h = record {
      report = Crew m.bots;
      answers = (refl, (m, e, refl));
      text = put ∙ ap (λ (bots : List Bot). before ++ flat_map bot_line bots) h;
      commands = refl;
      stands = stands;
    }

-- the lines so far were answered, and all lines print the text so far and whatever the remaining lines print
pub record IsPrinting (commands : List Command) (script : List DebugLine) (start : Session) (left : List DebugLine) (d : Debugging) (text : List ℕ) : Type 0 where
  pub goes_on : (rest : List ℕ) → Prints commands left d.session rest → Prints commands script start (text ++ rest)
  pub commands_are : d.commands ≡ commands
  pub stands : d.spent ≡ false

pub started : (commands : List Command) (script : List DebugLine) (start : Session) (d : Debugging) (text : List ℕ)
    → d ≡ record { session = start; commands = commands; spent = false } → text ≡ []
    → IsPrinting commands script start script d text
started commands script start d text e t =
    subst (λ (x : Debugging). IsPrinting commands script start script x text) (sym e)
    (subst (λ (xs : List ℕ). IsPrinting commands script start script (record { session = start; commands = commands; spent = false }) xs) (sym t)
    (record { goes_on = λ rest prints. prints; commands_are = refl; stands = refl }))

-- the next line of a script
pub next_line : (script : List ScriptLine) (i : ℕ) (d : ScriptLine) → i < length script
    → lines_are (drop i script) ≡ script_line_is (get_or script i d) ∷ lines_are (drop (i + 1) script)
next_line script i d l = let same : suc i ≡ i + 1 = omega arith in ap lines_are (drop-cons script i d l) ∙ ap (λ (k : ℕ). script_line_is (get_or script i d) ∷ lines_are (drop k script)) same

pub line_printed : (commands : List Command) (script : List DebugLine) (start : Session) (line : DebugLine)
    (left all : List DebugLine) (old new : Debugging) (before after : List ℕ) → all ≡ line ∷ left
    → IsPrinting commands script start all old before → IsTold line old new before after
    → IsPrinting commands script start left new after
line_printed commands script start line left all old new before after e so_far told = record {
  goes_on = λ rest prints.
      let answers = subst (λ (cs : List Command). AnswersLine cs line old.session new.session told.report) so_far.commands_are told.answers in
      let joined : before ++ (printed_report told.report ++ rest) ≡ after ++ rest = sym (append_assoc before (printed_report told.report) rest) ∙ ap (λ (t : List ℕ). t ++ rest) (sym told.text) in
      subst (Prints commands script start) joined (so_far.goes_on (printed_report told.report ++ rest) (subst (λ (ls : List DebugLine). Prints commands ls old.session (printed_report told.report ++ rest)) (sym e) (new.session, told.report, rest, answers, prints, refl)));
  commands_are = told.commands ∙ so_far.commands_are;
  stands = told.stands;
}

pub all_printed : (commands : List Command) (script : List DebugLine) (start : Session) (d : Debugging) (text : List ℕ)
    → IsPrinting commands script start [] d text → Prints commands script start text
all_printed commands script start d text so_far = subst (Prints commands script start) (append-nil text) (so_far.goes_on [] refl)
