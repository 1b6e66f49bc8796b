-- A trace played step by step.
use Rattle.std.proofs.Common.{◌≡◌, ℕ, ◌+◌, ◌-◌, ◌≤◌, ◌<◌, refl, sym, ap, subst, inl, inr, arith, List, [], length, take, drop}
use Rattle.std.specs.Prelude.{Option, Some, None, Err}
use Rattle.std.proofs.Math.Seq.{take-add}
use Rattle.std.proofs.lemmas.List.{drop_all, length-drop, take_rest}
use Rattle.nano_spec.specs.declared.commands.Command.{Command}
use Rattle.nano_spec.specs.Cutting.{Decoding}
use Rattle.trace_codec.specs.declared.fault.TraceFault.TheVariants as trace_fault
use Rattle.trace_codec.specs.declared.fault.TraceRefusal.{TraceRefusal}
use Rattle.trace_codec.specs.declared.fault.TraceRefusal.TheVariants.{Bad, Cut}
use Rattle.trace_codec.specs.Whole.{why_no_trace}
use Rattle.kept_machine.specs.declared.fault.NoStep.{NoStep}
use Rattle.kept_machine.specs.declared.fault.NoStep.TheVariants as no_step
use Rattle.kept_machine.specs.Calls.{Tries}
use Rattle.kept_machine.specs.Kept.{Kept}
use Rattle.machine_c.specs.declared.playing.Played.{Played}
use Rattle.machine_c.specs.declared.stepping.StepAnswer.{StepAnswer}
use Rattle.machine_c.specs.declared.stepping.StepAnswer.TheVariants.{Made, Refused, Unread}
use Rattle.machine_c.specs.Playing.{ArePlayed, EndsPlay, IsFrontMade, IsPlayed, StopsAt, bad_byte_of, none, one_more, refused_at}

-- a refused step leaves the machine as it was
pub stays_so : (old new : Kept) (commands : List Command) (f : NoStep) → Tries old commands new (Err f) → new ≡ old
stays_so old new commands (no_step.Broken b) h = h.0
stays_so old new commands no_step.Ended h = h.0
stays_so old new commands no_step.Count h = h.0
stays_so old new commands no_step.Long h = h.0
stays_so old new commands no_step.Memory h = h

-- `made` steps are made of the first `used` bytes of a trace
pub record HavePlayed (old : Kept) (trace : List ℕ) (most : ℕ) (new : Kept) (made used : ℕ) : Type 0 where
  pub few : made ≤ most
  pub within : used ≤ length trace
  pub steps : ArePlayed old (take used trace) made new

pub none_played : (old : Kept) (trace : List ℕ) (most : ℕ) → HavePlayed old trace most old 0 0
none_played old trace most = record { few = omega arith; within = omega arith; steps = none refl refl refl }

-- one more step, of the rest of the trace
pub played_more : (old : Kept) (trace : List ℕ) (most : ℕ) (between new : Kept) (made used size : ℕ)
    → HavePlayed old trace most between made used → made < most
    → IsFrontMade between (take (length trace - used) (drop used trace)) size new
    → HavePlayed old trace most new (made + 1) (used + size)
played_more old trace most between new made used size h left step =
    let front = subst (λ (bytes : List ℕ). IsFrontMade between bytes size new) (take_rest trace used) step in
    let so_far = h.within in
    let more = front.0 in
    record {
      few = omega (arith, left);
      within = omega (arith, so_far, more, length-drop used trace);
      steps = one_more (take used trace) (take size (drop used trace)) made between front.1 h.steps front.2 (take-add used size trace) refl;
    }

-- no step is left to make, or no byte
pub all_made : (old : Kept) (trace : List ℕ) (most : ℕ) (new : Kept) (made used : ℕ)
    → HavePlayed old trace most new made used → most ≤ made
    → IsPlayed old trace most new (record { made = made; used = used; stop = None })
all_made old trace most new made used h all = record { few = h.few; within = h.within; steps = h.steps; ends = inl (omega (arith, all)) }

pub all_used : (old : Kept) (trace : List ℕ) (most : ℕ) (new : Kept) (made used : ℕ)
    → HavePlayed old trace most new made used → used ≡ length trace
    → IsPlayed old trace most new (record { made = made; used = used; stop = None })
all_used old trace most new made used h all = record { few = h.few; within = h.within; steps = h.steps; ends = inr (drop_all used trace (omega (arith, all))) }

-- the next step is not made
pub one_refused : (old : Kept) (trace : List ℕ) (most : ℕ) (between new : Kept) (made used : ℕ) (answer : StepAnswer)
    → HavePlayed old trace most between made used → made < most → (used ≡ length trace → ⊥) → new ≡ between
    → StopsAt between (take (length trace - used) (drop used trace)) answer
    → IsPlayed old trace most new (record { made = made; used = used; stop = Some answer })
one_refused old trace most between new made used answer h left more stays stops = record {
  few = h.few;
  within = h.within;
  steps = subst (λ (k : Kept). ArePlayed old (take used trace) made k) (sym stays) h.steps;
  ends = (
    omega (arith, left),
    some_left,
    subst (λ (k : Kept). StopsAt k (drop used trace) answer) (sym stays) (subst (λ (bytes : List ℕ). StopsAt between bytes answer) (take_rest trace used) stops),
  );
}
  where
    some_left : drop used trace ≡ [] → ⊥
    some_left e =
        let same_length : length (drop used trace) ≡ length {A = ℕ} [] = ap length e in
        let within = h.within in
        more (omega (arith, same_length, within, length-drop used trace))

-- ---- the first byte of a command that is bad or cut

behind : (bytes : List ℕ) (refusal : TraceRefusal) → Decoding bytes (Err (why_no_trace refusal))
    → refused_at refusal ≤ length bytes
behind bytes (Bad offset) h = let whole = h.3 in omega (arith, whole)
behind bytes (Cut offset) h = let whole = h.3 in omega (arith, whole)

pub bad_byte_within : (old : Kept) (trace : List ℕ) (most : ℕ) (new : Kept) (played : Played)
    → IsPlayed old trace most new played → bad_byte_of played.used played.stop ≤ length trace
bad_byte_within old trace most new played h = by played.stop h.ends
  where
    by : (stop : Option StepAnswer) → EndsPlay new (most - played.made) (drop played.used trace) stop
        → bad_byte_of played.used stop ≤ length trace
    by None ends = omega arith
    by (Some (Made ok)) ends = omega arith
    by (Some (Refused fault)) ends = omega arith
    by (Some (Unread trace_fault.Memory)) ends = omega arith
    by (Some (Unread (trace_fault.Refused refusal))) ends =
        let so_far = h.within in
        let further = behind (drop played.used trace) refusal ends.2.0 in
        omega (arith, so_far, further, length-drop played.used trace)
