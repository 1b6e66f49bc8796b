-- Whole traces: the answer to their bytes is the definition's.
use Rattle.std.proofs.Common.{◌≡◌, ◌≢◌, ℕ, ◌+◌, ◌-◌, ◌<◌, ◌≤◌, refl, sym, ◌∙◌, ap, subst, arith, List, [], ◌∷◌, ◌++◌, length, take, drop}
use Rattle.std.specs.Prelude.{Result, Ok, Err}
use Rattle.std.proofs.lemmas.List.{append_assoc, drop-drop, drop_all, length-append, length-drop, take_rest}
use Rattle.nano_spec.specs.declared.commands.Command.{Command}
use Rattle.nano_spec.specs.Cutting.{AreCommands, BeginsSpelling, Cutting, Decoding, NoTrace, CutAt, BadAt}
use Rattle.nano_spec.specs.Spelling.{spelling, spellings}
use Rattle.nano_spec.proofs.Traces.{Decoding-unique}
use Rattle.trace_codec.specs.declared.fault.TraceFault.{TraceFault}
use Rattle.trace_codec.specs.declared.fault.TraceFault.TheVariants.{Memory, Refused}
use Rattle.trace_codec.specs.One.{Spells, IsNoCommand}
use Rattle.trace_codec.specs.Whole.{Decodes, IsDecoding, why_no_trace}
use Rattle.trace_codec.proofs.TakenBytes.{are_commands_more, spellings_more, bad_at, cut_at, whole}
use Rattle.trace_codec.proofs.Unique.{split, len_is}

-- the answer is the decoding of the bytes, and that is unique
pub is_answer : (bytes : List ℕ) (answer : Result (List Command) TraceFault) (decoding : Result (List Command) NoTrace)
    → Decodes bytes answer → Decoding bytes decoding → IsDecoding answer decoding
is_answer bytes (Ok commands) decoding h k = Decoding-unique bytes decoding (Ok commands) k h
is_answer bytes (Err (Refused refusal)) decoding h k = Decoding-unique bytes decoding (Err (why_no_trace refusal)) k h
is_answer bytes (Err Memory) decoding h k = tt

same_commands : (a b : List Command) → (let result : Result (List Command) NoTrace = Ok a in result) ≡ Ok b → a ≡ b
same_commands a b e = cc

-- encoded commands decode to the same commands
pub decoded_again : (commands : List Command) (bytes : List ℕ) (answer : Result (List Command) TraceFault)
    → Cutting bytes commands → Decodes bytes answer → answer ≢ Err Memory → answer ≡ Ok commands
decoded_again commands bytes answer h k n = by_answer answer (is_answer bytes answer (Ok commands) k h) n
  where
    by_answer : (answer : Result (List Command) TraceFault) → IsDecoding answer (Ok commands) → answer ≢ Err Memory
        → answer ≡ Ok commands
    by_answer (Ok others) e n = ap Ok (sym (same_commands commands others e))
    by_answer (Err (Refused refusal)) e n = cc
    by_answer (Err Memory) e n = absurd (n refl)

-- ---- a front of the bytes that is cut

-- the bytes before the start are the spellings of the commands
pub record HasCut (bytes : List ℕ) (commands : List Command) (start : ℕ) : Type 0 where
  pub are_commands : AreCommands commands
  pub bytes_are : bytes ≡ spellings commands ++ drop start bytes
  pub start_is : start ≡ length (spellings commands)
  pub within : start ≤ length bytes

cut_on : (bytes : List ℕ) (commands : List Command) (start : ℕ) (c : Command) (len : ℕ) → HasCut bytes commands start
    → Spells (drop start bytes) c len → HasCut bytes (commands ++ c ∷ []) (start + len)
cut_on bytes commands start c len h s =
    let same_length : length (spellings (commands ++ c ∷ [])) ≡ length (spellings commands ++ spelling c) = ap length (spellings_more commands c) in
    let len_is_here = len_is (drop start bytes) c len s in
    let its_within = s.within in
    let its_start_is = h.start_is in
    let within_here = h.within in
    record {
      are_commands = are_commands_more commands c h.are_commands s.is_command;
      bytes_are = h.bytes_are ∙ (ap (λ x. spellings commands ++ x) (split (drop start bytes) c len s ∙ ap (λ x. spelling c ++ x) (drop-drop len start bytes)) ∙ (sym (append_assoc (spellings commands) (spelling c) (drop (start + len) bytes)) ∙ ap (λ x. x ++ drop (start + len) bytes) (sym (spellings_more commands c))));
      start_is = omega (arith, length-append (spellings commands) (spelling c));
      within = omega (arith, length-drop start bytes);
    }

some_left : (bytes : List ℕ) (start : ℕ) → start < length bytes → drop start bytes ≢ []
some_left bytes start l e = let same_length : length (drop start bytes) ≡ length {A = ℕ} [] = ap length e in absurd (omega (arith, length-drop start bytes))

-- the rest from the start on, as a slice
abbrev pub left_from : List ℕ → ℕ → List ℕ
left_from bytes start = take (length bytes - start) (drop start bytes)

pub cut_more : (bytes : List ℕ) (commands : List Command) (start : ℕ) (c : Command) (len : ℕ)
    → HasCut bytes commands start → Spells (left_from bytes start) c len
    → HasCut bytes (commands ++ c ∷ []) (start + len)
cut_more bytes commands start c len h s = cut_on bytes commands start c len h (subst (λ (b : List ℕ). Spells b c len) (take_rest bytes start) s)

pub ends_in_command : (bytes : List ℕ) (commands : List Command) (start : ℕ) → HasCut bytes commands start
    → start < length bytes → BeginsSpelling (left_from bytes start) → Decoding bytes (Err (CutAt start))
ends_in_command bytes commands start h l b = cut_at bytes commands (drop start bytes) start h.are_commands h.bytes_are h.start_is (some_left bytes start l) (subst (λ (b : List ℕ). BeginsSpelling b) (take_rest bytes start) b)

pub is_refused : (bytes : List ℕ) (commands : List Command) (start : ℕ) → HasCut bytes commands start
    → IsNoCommand (left_from bytes start) → Decoding bytes (Err (BadAt start))
is_refused bytes commands start h r = bad_at bytes commands (drop start bytes) start h.are_commands h.bytes_are h.start_is (subst (λ (b : List ℕ). IsNoCommand b) (take_rest bytes start) r)

pub is_whole : (bytes : List ℕ) (commands : List Command) (start : ℕ) → HasCut bytes commands start
    → length bytes ≤ start → Decoding bytes (Ok commands)
is_whole bytes commands start h l = whole bytes commands (drop start bytes) h.are_commands h.bytes_are (drop_all start bytes l)
