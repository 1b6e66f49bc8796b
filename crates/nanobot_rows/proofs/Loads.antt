-- The content of a loaded file, fetched up to one byte past the limit.
use Rattle.std.proofs.Common.{codes, ◌≡◌, ℕ, ◌+◌, ◌<◌, ◌≤◌, ◌∙◌, Global, Vec, List, [], ◌∷◌, length, take, refl, sym, ap, subst, arith, Bool}
use Rattle.std.specs.Prelude.{Option, Some, Result, Ok, Err, MatchBool, IfSome}
use Rattle.std.specs.Result.{result_map_both}
use Rattle.std.proofs.lemmas.List.{length-append, length-take, take_all}
use Rattle.vox_geom.proofs.Tests.{test_less, test_not_less}
use Rattle.nano_spec.specs.declared.commands.Command.{Command}
use Rattle.nano_spec.specs.Spelling.{spelling, spellings}
use Rattle.nano_spec.specs.Cutting.{BadAt, CutAt, Cutting}
use Rattle.nano_spec.specs.Reading.{read}
use Rattle.trace_codec.specs.declared.fault.TraceFault.{TraceFault}
use Rattle.trace_codec.specs.declared.fault.TraceFault.TheVariants as trace
use Rattle.trace_codec.specs.declared.fault.TraceRefusal.TheVariants.{Bad, Cut}
use Rattle.trace_codec.specs.Whole.{Decodes}
use Rattle.trace_text.specs.declared.fault.TextFault.{TextFault}
use Rattle.trace_text.specs.declared.fault.TextFault.TheVariants as text
use Rattle.trace_text.specs.Text as said
use Rattle.trace_text.specs.Text.{faulty_line}
use Rattle.vox_depot.specs.Files.{Files, IfTold, IsMissing, content}
use Rattle.vox_depot.specs.declared.whole.LoadFault.{LoadFault}
use Rattle.vox_depot.specs.declared.whole.LoadFault.TheVariants as load
use Rattle.debug_script.specs.Calls as script
use Rattle.debug_script.specs.Script.{ScriptSays}
use Rattle.step_debugger.specs.Session.{DebugLine}
use Rattle.debug_script.specs.Calls.{lines_are}
use Rattle.debug_script.specs.declared.line.ScriptLine.{ScriptLine}
use Rattle.nanobot_rows.specs.declared.stop.Stop.{Stop}
use Rattle.plan_choice.specs.Planners.{byte_limit}
use Rattle.nanobot_rows.specs.Answer.{FileUpTo, Finding, Found, OfResult, ScriptOf, TextOf, TraceOf, script_limit}
use Rattle.nanobot_rows.specs.Report.{faulty_text_line}
use Rattle.nanobot_rows.specs.Reading.{Finds, FindsAs, of_load, of_text, of_trace}
use Rattle.nanobot_rows.specs.declared.status.Status.{Status}
use Rattle.nanobot_rows.specs.declared.status.Status.TheVariants as is
use Rattle.nanobot_rows.specs.Lines.{long_line}
use Rattle.nanobot_rows.proofs.Replies.{stops, unviewed, viewed}
use Rattle.nanobot_rows.proofs.Told.{finds_file, not_loaded, weaker, with_file}
use Rattle.nano_spec.proofs.Lengths.{spelling_some}

-- ---- files up to a limit

module _ (files : Files) (name bytes : List ℕ) (limit : ℕ) (status : Status) (line : List ℕ) where
  abbrev Choice : Bool → Found (List ℕ) → Type 0
  Choice long found = MatchBool long (found ≡ Err (status, line)) (found ≡ Ok bytes)

  module _ (there : content files name ≡ Some bytes) where
    pub fits : length bytes ≤ limit → FileUpTo limit status line name files (Ok bytes)
    fits few = (Ok bytes, finds_file files name bytes there, subst (λ (t : Bool). Choice t (Ok bytes)) (sym (test_not_less limit (length bytes) few)) refl)

    pub exceeds : limit < length bytes → FileUpTo limit status line name files (Err (status, line))
    exceeds many = (Ok bytes, finds_file files name bytes there, subst (λ (t : Bool). Choice t (Err (status, line))) (sym (test_less limit (length bytes) many)) refl)

module _ (told : Option Files) (name v : List ℕ) (limit most : ℕ) (status : Status) (line : List ℕ) (one_more : most ≡ limit + 1) (loaded : IfTold told name (λ file. v ≡ take most file)) where
  pub too_long : limit < length v → IfSome told (λ files. FileUpTo limit status line name files (Err (status, line)))
  too_long l = with_file told name _ loaded (λ files file _ there e. exceeds files name file limit status line there (more file e))
    where
      more : (file : List ℕ) → v ≡ take most file → limit < length file
      more file e = let length_is = ap length e ∙ length-take most file in omega arith

  pub is_whole : length v ≤ limit → IfSome told (λ files. FileUpTo limit status line name files (Ok v))
  is_whole l = with_file told name _ loaded (λ files file _ there e. subst (λ (bytes : List ℕ). FileUpTo limit status line name files (Ok bytes)) (sym (e ∙ take_all most file (less file e))) (fits files name file limit status line there (few file e)))
    where
      few : (file : List ℕ) → v ≡ take most file → length file ≤ limit
      few file e = let length_is = ap length e ∙ length-take most file in omega arith

      less : (file : List ℕ) → v ≡ take most file → length file ≤ most
      less file e = let few_enough = few file e in omega arith

-- ---- a file that was not loaded, or is too long, ends the call

-- the result for the bytes of a vector
abbrev pub OfBytes : Finding (List ℕ) → Option Files → Type 0 → Result (Vec ℕ Global) Stop → Type 0
OfBytes X told rose result = FindsAs (λ bytes. bytes.items) X told rose result

pub file_not_loaded : (limit : ℕ) (status : Status) (line : List ℕ) (told : Option Files) (name : List ℕ)
    (rose : Type 0) (fault : LoadFault) → (fault ≡ load.Missing → IsMissing told name) → (fault ≡ load.Failed → rose)
    → OfBytes (FileUpTo limit status line name) told rose (Err (of_load fault))
file_not_loaded limit status line told name rose fault missing failed =
    viewed {V = Vec ℕ Global} (λ bytes. bytes.items) (FileUpTo limit status line name) told rose (of_load fault) (not_loaded (FileUpTo limit status line name) told name rose (λ files h. (Err (is.Depot, []), h, refl)) fault missing failed)

module _ {A : Type 0} (limit : ℕ) (status : Status) (line name : List ℕ) (X : Finding A) (ends : (files : Files) (end : Status × List ℕ) → FileUpTo limit status line name files (Err end) → X files (Err end)) where
  bytes_stop : (told : Option Files) (rose : Type 0) (s : Stop)
      → OfBytes (FileUpTo limit status line name) told rose (Err s) → Finds X told rose (Err s)
  bytes_stop told rose s h = stops (FileUpTo limit status line name) X told rose rose s ends (λ h. h) (unviewed {V = Vec ℕ Global} (λ bytes. bytes.items) (FileUpTo limit status line name) told rose s h)

pub text_stops : (name : List ℕ) (told : Option Files) (rose : Type 0) (s : Stop)
    → OfBytes (FileUpTo byte_limit is.Text (long_line (codes "text") byte_limit) name) told rose (Err s)
    → Finds (TextOf name) told rose (Err s)
text_stops name = bytes_stop byte_limit is.Text (long_line (codes "text") byte_limit) name (TextOf name) (λ files end h. (Err end, h, refl))

pub trace_stops : (limit : ℕ) (name : List ℕ) (told : Option Files) (rose : Type 0) (s : Stop)
    → OfBytes (FileUpTo limit is.Trace (long_line (codes "trace") limit) name) told rose (Err s)
    → Finds (TraceOf limit name) told rose (Err s)
trace_stops limit name = bytes_stop limit is.Trace (long_line (codes "trace") limit) name (TraceOf limit name) (λ files end h. (Err end, h, refl))

-- the result for the lines of a script
abbrev pub OfScript : ℕ → List ℕ → Option Files → Type 0 → Result (Vec ScriptLine Global) Stop → Type 0
OfScript r name told rose result = FindsAs (λ script. lines_are script.items) (ScriptOf r name) told rose result

pub script_stops : (r : ℕ) (name : List ℕ) (told : Option Files) (rose : Type 0) (s : Stop)
    → OfBytes (FileUpTo script_limit is.Text (long_line (codes "text") script_limit) name) told rose (Err s)
    → OfScript r name told rose (Err s)
script_stops r name told rose s h =
    viewed {V = Vec ScriptLine Global} (λ script. lines_are script.items) (ScriptOf r name) told rose s
    (bytes_stop script_limit is.Text (long_line (codes "text") script_limit) name (ScriptOf r name) (λ files end h. (Err end, h, refl)) told rose s h)

-- ---- the contents of bytes

-- the content is the result
as_said : {A W : Type 0} (status : Status) (line : W → List ℕ) (files : Files) (is_said r : Result A W) → is_said ≡ r
    → OfResult status line is_said files (result_map_both (λ a. a) (λ why. (status, line why)) r)
as_said status line files is_said r e = ap (λ x. result_map_both (λ a. a) (λ why. (status, line why)) x) (sym e)

module _ (told : Option Files) (name v : List ℕ) where
  module _ (whole : IfSome told (λ files. FileUpTo byte_limit is.Text (long_line (codes "text") byte_limit) name files (Ok v))) where
    pub text_found : (commands : List Command) → read v ≡ Ok commands
        → IfSome told (λ files. TextOf name files (Ok commands))
    text_found commands e = weaker told (λ files h. (Ok v, h, as_said is.Text faulty_text_line files (read v) (Ok commands) e)) whole

    pub text_refused : (rose : Type 0) (f : TextFault) → said.ReadsText v (Err f)
        → Finds (TextOf name) told rose (Err (of_text f))
    text_refused rose (text.Refused refusal) e = weaker told (λ files h. (Ok v, h, as_said is.Text faulty_text_line files (read v) (Err (faulty_line refusal)) e)) whole
    text_refused rose text.Memory e = tt

  module _ (r : ℕ) (whole : IfSome told (λ files. FileUpTo script_limit is.Text (long_line (codes "text") script_limit) name files (Ok v))) where
    pub script_found : (lines : List DebugLine) → ScriptSays r v (Ok lines)
        → IfSome told (λ files. ScriptOf r name files (Ok lines))
    script_found lines says = weaker told (λ files h. (Ok v, h, (Ok lines, says, refl))) whole

    pub script_refused : (rose : Type 0) (f : TextFault) → script.ReadsScript {Y = Global} r v (Err f)
        → OfScript r name told rose (Err (of_text f))
    script_refused rose (text.Refused refusal) says = weaker told (λ files h. (Ok v, h, (Err (faulty_line refusal), says, refl))) whole
    script_refused rose text.Memory says = tt

  module _ (limit : ℕ) (whole : IfSome told (λ files. FileUpTo limit is.Trace (long_line (codes "trace") limit) name files (Ok v))) where
    pub trace_found : (commands : List Command) → Cutting v commands
        → IfSome told (λ files. TraceOf limit name files (Ok commands))
    trace_found commands cutting = weaker told (λ files h. (Ok v, h, (Ok commands, cutting, refl))) whole

    pub trace_refused : (rose : Type 0) (f : TraceFault) → Decodes v (Err f)
        → Finds (TraceOf limit name) told rose (Err (of_trace f))
    trace_refused rose (trace.Refused (Bad offset)) decoding = weaker told (λ files h. (Ok v, h, (Err (BadAt offset), decoding, refl))) whole
    trace_refused rose (trace.Refused (Cut offset)) decoding = weaker told (λ files h. (Ok v, h, (Err (CutAt offset), decoding, refl))) whole
    trace_refused rose trace.Memory decoding = tt

-- ---- the number of commands

no_more : (commands : List Command) → length commands ≤ length (spellings commands)
no_more [] = omega arith
no_more (c ∷ more) =
    let sum : length (spellings (c ∷ more)) ≡ length (spelling c) + length (spellings more) = length-append (spelling c) (spellings more) in
    let one = spelling_some c in
    let rest = no_more more in
    omega (arith, sum, one, rest)

-- bytes spell no more commands than they are
pub few_commands : (bytes : List ℕ) (commands : List Command) (n : ℕ) → Cutting bytes commands → length bytes ≤ n
    → length commands ≤ n
few_commands bytes commands n cutting few = let no_longer = no_more commands in let length_is = ap length cutting.1 in omega (arith, no_longer, length_is, few)
