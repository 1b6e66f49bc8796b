-- The commands of the trace of a file.
use Rattle.std.proofs.Common.{codes, ◌≡◌, ℕ, ◌≤◌, List, Some, Bool, true, false, refl, subst, nat_lt, length}
use Rattle.std.specs.Result.{result_map_both}
use Rattle.std.specs.Prelude.{Result, Ok, Err, MatchBool}
use Rattle.vox_geom.proofs.Tests.{not_less_by_test}
use Rattle.nano_spec.specs.declared.commands.Command.{Command}
use Rattle.nano_spec.specs.Cutting.{Cutting, Decoding, NoTrace}
use Rattle.vox_depot.specs.Files.{Files, content}
use Rattle.nanobot_rows.specs.declared.status.Status.TheVariants as is
use Rattle.nanobot_rows.specs.Answer.{DecodingOf, FileOf, FileUpTo, Found, TraceOf}
use Rattle.nanobot_rows.specs.Lines.{trace_line, long_line}
use Rattle.nanobot_rows.proofs.Loads.{fits}
use Rattle.nanobot_rows.proofs.Replies.{with_ok}
use Rattle.nanobot_rows.proofs.Told.{file_found}

-- ---- the commands of a file

-- the file of the name has a trace of these commands
abbrev pub IsTrace : ℕ → Files → List ℕ → List Command → Type 0
IsTrace limit files name commands = (bytes : List ℕ) × (content files name ≡ Some bytes) × (length bytes ≤ limit) × Cutting bytes commands

module _ (limit : ℕ) (files : Files) (name : List ℕ) (commands : List Command) where
  pub finds_trace : IsTrace limit files name commands → TraceOf limit name files (Ok commands)
  finds_trace h = (Ok h.0, fits files name h.0 limit is.Trace (long_line (codes "trace") limit) h.1 h.2, (Ok commands, h.3, refl))

  pub trace_found : TraceOf limit name files (Ok commands) → IsTrace limit files name commands
  trace_found h =
      let whole = with_ok (FileUpTo limit is.Trace (long_line (codes "trace") limit) name) DecodingOf files commands h in
      let there = with_ok (FileOf name) (λ bytes files found. MatchBool (nat_lt limit (length bytes)) (found ≡ Err (is.Trace, long_line (codes "trace") limit)) (found ≡ Ok bytes)) files whole.0 whole.1 in
      by there.0 whole.0 (file_found files name there.0 there.1) (nat_lt limit (length there.0)) refl there.2 whole.2.0 whole.2.1 whole.2.2
    where
      by : (file bytes : List ℕ) → content files name ≡ Some file → (long : Bool) → nat_lt limit (length file) ≡ long
          → MatchBool long (◌≡◌ {A = Found (List ℕ)} (Ok bytes) (Err (is.Trace, long_line (codes "trace") limit)))
          (◌≡◌ {A = Found (List ℕ)} (Ok bytes) (Ok file)) → (d : Result (List Command) NoTrace) → Decoding bytes d
          → ◌≡◌ {A = Found (List Command)} (Ok commands)
          (result_map_both (λ x. x) (λ why. (is.Trace, trace_line why)) d) → IsTrace limit files name commands
      by file bytes e true test is_long d decoding said = absurd (cc)
      by file bytes e false test is_file (Err why) decoding said = absurd (cc)
      by file bytes e false test is_file (Ok cut) decoding said =
          let same : bytes ≡ file = cc in
          let spelled : cut ≡ commands = cc in
          (file, e, not_less_by_test limit (length file) test, subst (λ (xs : List Command). Cutting file xs) spelled (subst (λ (b : List ℕ). Cutting b cut) same decoding))
