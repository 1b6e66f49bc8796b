-- The answer to the bytes of a whole trace.
use Rattle.std.specs.Prelude.{◌≡◌, List, ℕ, Result, Ok, Err, ⊤}
use Rattle.nano_spec.specs.declared.commands.Command.{Command}
use Rattle.nano_spec.specs.Cutting.{Decoding, NoTrace, CutAt, BadAt}
use Rattle.trace_codec.specs.declared.fault.TraceFault.{TraceFault}
use Rattle.trace_codec.specs.declared.fault.TraceFault.TheVariants.{Memory, Refused}
use Rattle.trace_codec.specs.declared.fault.TraceRefusal.{TraceRefusal}
use Rattle.trace_codec.specs.declared.fault.TraceRefusal.TheVariants.{Bad, Cut}

-- the reason why bytes are no trace, by the definitions
abbrev pub why_no_trace : TraceRefusal → NoTrace
why_no_trace (Bad offset) = BadAt offset
why_no_trace (Cut offset) = CutAt offset

-- the answer is the decoding of the bytes, unless allocation failed
abbrev pub Decodes : List ℕ → Result (List Command) TraceFault → Type 0
Decodes bytes (Ok commands) = Decoding bytes (Ok commands)
Decodes bytes (Err (Refused refusal)) = Decoding bytes (Err (why_no_trace refusal))
Decodes bytes (Err Memory) = ⊤

-- the answer is this one, unless allocation failed
abbrev pub IsDecoding : Result (List Command) TraceFault → Result (List Command) NoTrace → Type 0
IsDecoding (Ok commands) decoding = decoding ≡ Ok commands
IsDecoding (Err (Refused refusal)) decoding = decoding ≡ Err (why_no_trace refusal)
IsDecoding (Err Memory) decoding = ⊤
