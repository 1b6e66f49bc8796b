-- The bytes that a decoder has taken of a trace, and the decoding of the trace.
use Rattle.std.proofs.Common.{◌≡◌, ◌≢◌, ℕ, ◌+◌, ◌≤◌, refl, sym, ◌∙◌, ap, subst, inl, inr, arith, List, [], ◌∷◌, ◌++◌, length, take}
use Rattle.std.specs.Prelude.{Ok, Err}
use Rattle.std.proofs.lemmas.List.{append-nil, append_assoc, flat_map_more, length-append}
use Rattle.vox_geom.proofs.Truths.{false_and_true}
use Rattle.nano_spec.specs.declared.commands.Command.{Command}
use Rattle.nano_spec.specs.Command.{IsCommand}
use Rattle.nano_spec.specs.Cutting.{AreCommands, RestOf, BeginsSpelling, CutAt, BadAt, Decoding}
use Rattle.nano_spec.specs.Spelling.{spelling, spellings}
use Rattle.nano_spec.proofs.Traces.{one_spelling}
use Rattle.trace_codec.specs.declared.decoder.Fed.TheVariants as fed
use Rattle.trace_codec.specs.declared.fault.TraceFault.TheVariants.{Refused}
use Rattle.trace_codec.specs.declared.fault.TraceRefusal.{TraceRefusal}
use Rattle.trace_codec.specs.declared.fault.TraceRefusal.TheVariants as refusal
use Rattle.trace_codec.specs.Decoder.{DecoderState, fresh, Completes, AnswersPiece, EndsTrace, decoder_after, HasTaken}
use Rattle.trace_codec.specs.One.{NoSpelling, IsNoCommand}
use Rattle.trace_codec.specs.Whole.{Decodes}
use Rattle.trace_codec.proofs.Pieces.{refused_more}
use Rattle.trace_codec.proofs.Unique.{begins_nil, no_part}

pub are_commands_more : (commands : List Command) (c : Command) → AreCommands commands → IsCommand c
    → AreCommands (commands ++ c ∷ [])
are_commands_more [] c h i = (i, tt)
are_commands_more (d ∷ commands) c h i = (h.0, are_commands_more commands c h.1 i)

pub spellings_more : (commands : List Command) (c : Command)
    → spellings (commands ++ c ∷ []) ≡ spellings commands ++ spelling c
spellings_more commands c = sym (flat_map_more spelling [] commands c)

-- commands whose spellings precede bytes that no spelling begins are the longest front
longest : (cs ds : List Command) (rest other : List ℕ) → AreCommands cs → AreCommands ds
    → spellings cs ++ rest ≡ spellings ds ++ other → NoSpelling rest → length rest ≤ length other
longest cs [] rest other h k e n =
    let same_length : length (spellings cs ++ rest) ≡ length other = ap length e in
    omega (arith, length-append (spellings cs) rest)
longest [] (d ∷ ds) rest other h k e n = absurd (n d (spellings ds ++ other) k.0 (e ∙ append_assoc (spelling d) (spellings ds) other))
longest (c ∷ cs) (d ∷ ds) rest other h k e n =
    longest cs ds rest other h.1 k.1
    (one_spelling c d (spellings cs ++ rest) (spellings ds ++ other) h.0 k.0 (sym (append_assoc (spelling c) (spellings cs) rest) ∙ (e ∙ append_assoc (spelling d) (spellings ds) other))).1
    n

rest_of : (bytes : List ℕ) (commands : List Command) (rest : List ℕ) → AreCommands commands
    → bytes ≡ spellings commands ++ rest → NoSpelling rest → RestOf bytes rest
rest_of bytes commands rest h e n = ((commands, h, e), λ other f. longest commands f.0 rest other h f.1 (sym e ∙ f.2) n)

length_is : (bytes : List ℕ) (commands : List Command) (rest : List ℕ) (offset : ℕ) → bytes ≡ spellings commands ++ rest
    → offset ≡ length (spellings commands) → length bytes ≡ offset + length rest
length_is bytes commands rest offset e o =
    let same_length : length bytes ≡ length (spellings commands ++ rest) = ap length e in
    omega (arith, length-append (spellings commands) rest)

-- bytes are bad from the refused bytes after the commands on
pub bad_at : (bytes : List ℕ) (commands : List Command) (rest : List ℕ) (offset : ℕ) → AreCommands commands
    → bytes ≡ spellings commands ++ rest → offset ≡ length (spellings commands) → IsNoCommand rest
    → Decoding bytes (Err (BadAt offset))
bad_at bytes commands rest offset h e o r = (rest, rest_of bytes commands rest h e r.0, λ n. r.1 (subst (λ (b : List ℕ). BeginsSpelling b) (sym n) begins_nil), length_is bytes commands rest offset e o, r.1)

-- bytes are cut at the prefix of a spelling after the commands
pub cut_at : (bytes : List ℕ) (commands : List Command) (rest : List ℕ) (offset : ℕ) → AreCommands commands
    → bytes ≡ spellings commands ++ rest → offset ≡ length (spellings commands) → rest ≢ [] → BeginsSpelling rest
    → Decoding bytes (Err (CutAt offset))
cut_at bytes commands rest offset h e o n b = (rest, rest_of bytes commands rest h e (λ c y i f. no_part rest y c i f b), n, length_is bytes commands rest offset e o, b)

-- bytes of which nothing is left are the commands
pub whole : (bytes : List ℕ) (commands : List Command) (rest : List ℕ) → AreCommands commands
    → bytes ≡ spellings commands ++ rest → rest ≡ [] → Decoding bytes (Ok commands)
whole bytes commands rest h e n = (h, e ∙ (ap (λ x. spellings commands ++ x) n ∙ append-nil (spellings commands)))

pub taken_nothing : HasTaken [] [] fresh
taken_nothing = record { works = refl; are_commands = tt; bytes_are = refl; offset_is = refl; begins = begins_nil }

pub taken_got : (bytes piece : List ℕ) (commands : List Command) (decoder : DecoderState) (c : Command) (used : ℕ)
    → HasTaken bytes commands decoder → Completes decoder piece c used
    → HasTaken (bytes ++ take used piece) (commands ++ c ∷ []) (decoder_after decoder piece (fed.Got c used))
taken_got bytes piece commands decoder c used h s =
    let its_offset_is : decoder.offset ≡ length (spellings commands) = h.offset_is in
    let same_length : length (spellings (commands ++ c ∷ [])) ≡ length (spellings commands ++ spelling c) = ap length (spellings_more commands c) in
    record {
      works = refl;
      are_commands = are_commands_more commands c h.are_commands s.is_command;
      bytes_are = ap (λ x. x ++ take used piece) h.bytes_are ∙ (append_assoc (spellings commands) decoder.held (take used piece) ∙ (ap (λ x. spellings commands ++ x) s.spelling_is ∙ (sym (spellings_more commands c) ∙ sym (append-nil (spellings (commands ++ c ∷ []))))));
      offset_is = omega (arith, length-append (spellings commands) (spelling c));
      begins = begins_nil;
    }

pub taken_all : (bytes piece : List ℕ) (commands : List Command) (decoder : DecoderState)
    → HasTaken bytes commands decoder → BeginsSpelling (decoder.held ++ piece)
    → HasTaken (bytes ++ piece) commands (decoder_after decoder piece fed.All)
taken_all bytes piece commands decoder h b = record {
  works = refl;
  are_commands = h.are_commands;
  bytes_are = ap (λ x. x ++ piece) h.bytes_are ∙ append_assoc (spellings commands) decoder.held piece;
  offset_is = h.offset_is;
  begins = b;
}

pub taken_bad : (bytes piece more : List ℕ) (commands : List Command) (decoder : DecoderState) (offset : ℕ)
    → HasTaken bytes commands decoder → AnswersPiece decoder piece (fed.Bad offset)
    → Decoding ((bytes ++ piece) ++ more) (Err (BadAt offset))
taken_bad bytes piece more commands decoder offset h (e, inl f) = absurd (false_and_true decoder.failed h.works f)
taken_bad bytes piece more commands decoder offset h (e, inr r) =
    bad_at ((bytes ++ piece) ++ more) commands ((decoder.held ++ piece) ++ more) offset h.are_commands
    (ap (λ x. (x ++ piece) ++ more) h.bytes_are ∙ (ap (λ x. x ++ more) (append_assoc (spellings commands) decoder.held piece) ∙ append_assoc (spellings commands) (decoder.held ++ piece) more))
    (e ∙ h.offset_is)
    (refused_more (decoder.held ++ piece) more r)

-- the decoder's answer at the end is the decoding of the bytes
pub taken_ended : (bytes : List ℕ) (commands : List Command) (decoder : DecoderState) (refusal : TraceRefusal)
    → HasTaken bytes commands decoder → EndsTrace {A = Unit {0}} decoder (Err refusal)
    → Decodes bytes (Err (Refused refusal))
taken_ended bytes commands decoder (refusal.Cut offset) h e = cut_at bytes commands decoder.held offset h.are_commands h.bytes_are (e.2 ∙ h.offset_is) e.1 h.begins
taken_ended bytes commands decoder (refusal.Bad offset) h e = absurd (false_and_true decoder.failed h.works e.0)
