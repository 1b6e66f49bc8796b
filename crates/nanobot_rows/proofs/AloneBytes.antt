-- The loop for a single bot consumes the next bytes of its trace.
use Rattle.std.proofs.Common.{◌≡◌, ℕ, ◌+◌, ◌-◌, ◌≤◌, ◌∙◌, refl, sym, ap, subst, arith, Bool, true, false, List, length, length-drop, take, drop}
use Rattle.std.specs.Prelude.{Result, Ok, Err, IfOk}
use Rattle.std.proofs.lemmas.List.{take_all}
use Rattle.nano_spec.specs.declared.commands.Command.{Command}
use Rattle.trace_judge.specs.Alone.{HasPushed, RunsAlone}
use Rattle.trace_judge.specs.Course.{Course}
use Rattle.trace_codec.specs.Decoder.{Completes, DecoderState, decoder_after}
use Rattle.trace_codec.specs.declared.decoder.Fed.TheVariants.{Got}
use Rattle.nanobot_rows.specs.Alone.{WentOn, TakesUpTo}
use Rattle.nanobot_rows.specs.Reading.{RunState}
use Rattle.nanobot_rows.specs.Taking.{Takes, TakesFront}
use Rattle.nanobot_rows.specs.declared.trace_run.alone.Went.{Went}
use Rattle.nanobot_rows.proofs.Paying.{PushLaw}
use Rattle.nanobot_rows.proofs.Running.{AllLaw, BadLaw, GotLaw}
use Rattle.nanobot_rows.proofs.TakenBytes.{takes, takes_next, takes_nothing}

-- ---- one command

pub goes_got : (got : GotLaw) (all : AllLaw) (bad : BadLaw) (push : PushLaw) (old : RunState) (d next : DecoderState)
    (r new : Course) (piece : List ℕ) (command : Command) (used : ℕ) (still : Bool) (began ended : ℕ)
    → record { decoder = d; run = r } ≡ old → old.run.spent ≡ false → next ≡ decoder_after d piece (Got command used)
    → Completes d piece command used → HasPushed r command new began ended → (still ≡ true → RunsAlone new)
    → WentOn old piece (record { used = used; alone = still }) (record { decoder = next; run = new }) began ended
goes_got got all bad push old d next r new piece command used still began ended view stands is_next answers pushed alone =
    let stands_here : r.spent ≡ false = ap (λ (s : RunState). s.run.spent) view ∙ stands in
    let taken = takes got all bad push d r piece stands_here (Got command used) used new began ended answers
    (refl, record { progress = pushed.progress; stands = pushed.stands; resolution = pushed.resolution; touches = pushed.touches }) in
    subst (λ (s : RunState). WentOn s piece (record { used = used; alone = still }) (record { decoder = next; run = new }) began ended) view
    (subst (λ (x : DecoderState). WentOn (record { decoder = d; run = r }) piece (record { used = used; alone = still }) (record { decoder = x; run = new }) began ended) (sym is_next)
    (record {
      takes = record { within = answers.within; takes = taken };
      some = λ e. answers.some;
      still = λ e. record { alone = alone e; between = (refl, refl) };
    }))

-- ---- many commands, and then another

pub further : (s t u : RunState) (piece : List ℕ) (at n : ℕ) (went : Went) (i j k : ℕ) → at ≤ length piece
    → n ≡ went.used → Takes s (take at piece) t i j → WentOn t (take (length piece - at) (drop at piece)) went u j k
    → TakesUpTo s piece (at + n) u i k
further s t u piece at n went i j k l e a g =
    let size : length (drop at piece) ≡ length piece - at = length-drop at piece in
    -- the rest of the piece is returned whole
    let whole : take (length piece - at) (drop at piece) ≡ drop at piece = take_all (length piece - at) (drop at piece) (omega (arith, size)) in
    let within : went.used ≤ length (drop at piece) = subst (λ (b : List ℕ). went.used ≤ length b) whole g.takes.within in
    let next = subst (λ (b : List ℕ). Takes t (take went.used b) u j k) whole g.takes.takes in
    record {
      within = omega (arith, within, size, l, e);
      takes = subst (λ (m : ℕ). Takes s (take (at + m) piece) u i k) (sym e) (takes_next s t u piece at went.used i j k a next);
    }

pub takes_none : (s : RunState) (piece : List ℕ) (began : ℕ) → s.run.spent ≡ false → TakesUpTo s piece 0 s began began
takes_none s piece began stands = record { within = omega arith; takes = takes_nothing s began stands }

pub then_next : {E : Type 0} (answer : Result ℕ E) (s t u : RunState) (piece : List ℕ) (none i j k : ℕ) → none ≡ 0
    → TakesUpTo s piece none t i j → IfOk answer (λ n. TakesFront t piece n u j k)
    → IfOk answer (λ n. TakesFront s piece n u i k)
then_next (Ok n) s t u piece none i j k e first next = record {
  some = next.some;
  within = next.within;
  takes = (let all : 0 + n ≡ n = omega arith in
      subst (λ (m : ℕ). Takes s (take m piece) u i k) all
      (takes_next s t u piece 0 n i j k (subst (λ (m : ℕ). Takes s (take m piece) t i j) e first.takes) next.takes));
}
then_next (Err x) s t u piece none i j k e first next = tt
