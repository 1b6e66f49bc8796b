-- The answers of `debug`, by the contents of the files.
use Rattle.std.proofs.Common.{◌≡◌, ℕ, ◌≤◌, Global, List, Vec, refl, subst}
use Rattle.std.specs.Prelude.{Option, Ok, Err, IfSome}
use Rattle.nano_spec.specs.declared.commands.Command.{Command}
use Rattle.nano_spec.specs.Matrix.{Matrix}
use Rattle.vox_depot.specs.Causes.{Rose}
use Rattle.vox_depot.specs.Files.{Files}
use Rattle.debug_script.specs.Calls.{lines_are}
use Rattle.debug_script.specs.declared.line.ScriptLine.{ScriptLine}
use Rattle.nanobot_rows.specs.declared.effect.Effect.{Effect}
use Rattle.nanobot_rows.specs.declared.report.Who.TheVariants as who
use Rattle.nanobot_rows.specs.declared.stop.Stop.{Stop}
use Rattle.nanobot_words.specs.Rows.{debug}
use Rattle.nanobot_rows.specs.Answer.{AnswerOf, Answers, ModelOf, OfSession, ScriptOf, TraceOf, Upon, dis_limit}
use Rattle.nanobot_rows.specs.Effects.{EndsStored, reply_by}
use Rattle.nanobot_rows.specs.Reading.{Finds}
use Rattle.nanobot_rows.proofs.Loads.{OfScript}
use Rattle.nanobot_rows.proofs.Replies.{both_told, says_found, says_stops, unviewed}
use Rattle.nanobot_rows.proofs.Told.{weaker}

module _ (source trace script : List ℕ) (m : Matrix) where
  abbrev OfDebug : Answers
  OfDebug = AnswerOf (debug source trace script)

  abbrev OfScripts : List Command → Answers
  OfScripts commands = Upon (ScriptOf m.resolution script) (OfSession m commands)

  abbrev OfTraces : Answers
  OfTraces = Upon (TraceOf dis_limit trace) OfScripts

  -- the results after the source
  module _ (told later : Option Files) (before between now : ℕ) (found : IfSome told (λ files. ModelOf who.Source source files (Ok m))) (same : later ≡ told) (since : before ≤ between) where
    of_source : (s : Stop) → EndsStored OfTraces later (Rose between now) (Err s)
        → EndsStored OfDebug told (Rose before now) (Err s)
    of_source s = says_found (ModelOf who.Source source) (λ n. Upon (TraceOf dis_limit trace) (λ commands. Upon (ScriptOf n.resolution script) (OfSession n commands))) reply_by m told later before between now (Err s) found same since

    -- the trace stops the call
    pub trace_stops : (s : Stop) → Finds (TraceOf dis_limit trace) later (Rose between now) (Err s)
        → EndsStored OfDebug told (Rose before now) (Err s)
    trace_stops s h = of_source s (says_stops (TraceOf dis_limit trace) OfTraces reply_by (λ files end e. (Err end, e, refl)) later (Rose between now) s h)

    -- the script stops it
    pub script_stops : (commands : List Command) → IfSome later (λ files. TraceOf dis_limit trace files (Ok commands))
        → (last : Option Files) (third : ℕ) → last ≡ later → between ≤ third → (r : ℕ) → r ≡ m.resolution → (s : Stop)
        → OfScript r script last (Rose third now) (Err s) → EndsStored OfDebug told (Rose before now) (Err s)
    script_stops commands also last third same_last since_third r high s h =
        of_source s (says_found (TraceOf dis_limit trace) OfScripts reply_by commands later last between third now (Err s) also same_last since_third
        (says_stops (ScriptOf m.resolution script) (OfScripts commands) reply_by (λ files end e. (Err end, e, refl)) last (Rose third now) s
        (unviewed (λ (lines : Vec ScriptLine Global). lines_are lines.items) (ScriptOf m.resolution script) last (Rose third now) s (subst (λ (n : ℕ). OfScript n script last (Rose third now) (Err s)) high h))))

  -- the session is known
  pub session_ends : (told later last : Option Files) → IfSome told (λ files. ModelOf who.Source source files (Ok m))
      → later ≡ told → (commands : List Command) → IfSome later (λ files. TraceOf dis_limit trace files (Ok commands))
      → last ≡ later → (r : ℕ) → r ≡ m.resolution → (lines : List ScriptLine)
      → IfSome last (λ files. ScriptOf r script files (Ok (lines_are lines))) → (effect : Effect)
      → ((files : Files) → OfSession m commands (lines_are lines) files (reply_by files effect))
      → IfSome told (λ files. OfDebug files (reply_by files effect))
  session_ends told later last found same commands also same_last r high lines read effect h =
      let third = subst (λ (n : ℕ). IfSome last (λ files. ScriptOf n script files (Ok (lines_are lines)))) high read in
      let second = subst (λ (o : Option Files). IfSome o (λ files. OfScripts commands files (reply_by files effect))) same_last (weaker {Q = λ files. OfScripts commands files (reply_by files effect)} last (λ files x. (Ok (lines_are lines), x, h files)) third) in
      let first = subst (λ (o : Option Files). IfSome o (λ files. OfTraces files (reply_by files effect))) same (both_told {R = λ files. OfTraces files (reply_by files effect)} later (λ files x y. (Ok commands, x, y)) also second) in
      both_told told (λ files x y. (Ok m, x, y)) found first
