-- A run consumes the next bytes of its trace: step by step, and many steps one after another.
use Rattle.std.proofs.Common.{◌≡◌, ℕ, ◌+◌, ◌*◌, ◌/◌, ◌%◌, ◌≤◌, ◌∙◌, refl, sym, ap, subst, arith, List, [], ◌∷◌, ◌++◌, slice_index_or, append_assoc, append-nil, false, length, length-append, take, drop}
use Rattle.std.specs.Prelude.{Result, Ok, Err, IfOk}
use Rattle.std.proofs.Math.Seq.{take-add}
use Rattle.std.proofs.lemmas.List.{take_all}
use Rattle.nano_spec.specs.declared.commands.Command.{Command}
use Rattle.trace_judge.specs.Course.{Course}
use Rattle.trace_codec.specs.Decoder.{AnswersPiece, DecoderState, decoder_after}
use Rattle.trace_codec.specs.declared.decoder.Fed.{Fed}
use Rattle.trace_codec.specs.declared.decoder.Fed.TheVariants.{Got, All, Bad}
use Rattle.nanobot_rows.specs.Reading.{HasRun, RunState}
use Rattle.nanobot_rows.specs.Taking.{Gains, Gets, Takes, TakesFront}
use Rattle.nanobot_rows.specs.Touching.{HasPaid}
use Rattle.nanobot_rows.proofs.Paying.{PushLaw, paid_all, paid_bad, paid_got}
use Rattle.nanobot_rows.proofs.Running.{AllLaw, BadLaw, GotLaw, all_step, bad_step, got_step}

-- ---- one answer of the decoder

module _ (got : GotLaw) (all : AllLaw) (bad : BadLaw) (push : PushLaw) (d : DecoderState) (r : Course) (piece : List ℕ) (stands : r.spent ≡ false) where
  abbrev old : RunState
  old = record { decoder = d; run = r }

  takes_got : (command : Command) (used : ℕ) (new : Course) (began ended : ℕ) → AnswersPiece d piece (Got command used)
      → Gains r command new began ended → Takes old (take used piece)
      (record { decoder = decoder_after d piece (Got command used); run = new }) began ended
  takes_got command used new began ended answers g = record {
    run = λ source profile before run. got_step source profile before piece old run got command used new answers g.progress;
    offset = (let length_is = ap length answers.spelling_is in let joined_length = length-append d.held (take used piece) in omega (arith, length_is, joined_length));
    resolution = g.resolution;
    stands = g.stands;
    paid = λ source profile before start same paid. paid_got source profile before piece old start began paid got push command used new ended same answers g.progress g.touches;
  }

  takes_all : (began : ℕ) → AnswersPiece d piece All
      → Takes old piece (record { decoder = decoder_after d piece All; run = r }) began began
  takes_all began answers = record {
    run = λ source profile before run. all_step source profile before piece old run all answers;
    offset = (let length_is = length-append d.held piece in omega (arith, length_is));
    resolution = refl;
    stands = stands;
    paid = λ source profile before start same paid. paid_all source profile before piece old start began paid all answers;
  }

  takes_bad : (offset began : ℕ) → AnswersPiece d piece (Bad offset)
      → Takes old piece (record { decoder = decoder_after d piece (Bad offset); run = r }) began began
  takes_bad offset began answers = record {
    run = λ source profile before run. bad_step source profile before piece old run bad offset answers;
    offset = omega arith;
    resolution = refl;
    stands = stands;
    paid = λ source profile before start same paid. paid_bad source profile before piece old start began paid offset;
  }

  -- if n bytes are all, or none of a command's
  whole : (n : ℕ) → n ≡ length piece → take n piece ≡ piece
  whole n e = take_all n piece (omega (arith, e))

  pub takes : (fed : Fed) (n : ℕ) (new : Course) (began ended : ℕ) → AnswersPiece d piece fed
      → Gets r fed (length piece) n new began ended
      → Takes old (take n piece) (record { decoder = decoder_after d piece fed; run = new }) began ended
  takes (Got command used) n new began ended answers (e, g) =
      subst (λ (k : ℕ). Takes old (take k piece) (record { decoder = decoder_after d piece (Got command used); run = new }) began ended) (sym e) (takes_got command used new began ended answers g)
  takes All n new began ended answers (e, same, still) =
      subst (λ (b : List ℕ). Takes old b (record { decoder = decoder_after d piece All; run = new }) began ended) (sym (whole n e))
      (subst (λ (x : Course). Takes old piece (record { decoder = decoder_after d piece All; run = x }) began ended) (sym same)
      (subst (λ (t : ℕ). Takes old piece (record { decoder = decoder_after d piece All; run = r }) began t) (sym still) (takes_all began answers)))
  takes (Bad offset) n new began ended answers (e, same, still) =
      subst (λ (b : List ℕ). Takes old b (record { decoder = decoder_after d piece (Bad offset); run = new }) began ended) (sym (whole n e))
      (subst (λ (x : Course). Takes old piece (record { decoder = decoder_after d piece (Bad offset); run = x }) began ended) (sym same)
      (subst (λ (t : ℕ). Takes old piece (record { decoder = decoder_after d piece (Bad offset); run = r }) began t) (sym still) (takes_bad offset began answers)))

-- the number of bytes consumed
pub some_taken : (d : DecoderState) (r new : Course) (piece : List ℕ) (fed : Fed) (n began ended : ℕ) → 1 ≤ length piece
    → AnswersPiece d piece fed → Gets r fed (length piece) n new began ended → (1 ≤ n) × (n ≤ length piece)
some_taken d r new piece (Got command used) n began ended some answers (e, g) = (omega (arith, e, answers.some), omega (arith, e, answers.within))
some_taken d r new piece All n began ended some answers (e, same, still) = (omega (arith, e), omega (arith, e))
some_taken d r new piece (Bad offset) n began ended some answers (e, same, still) = (omega (arith, e), omega (arith, e))

-- the bytes consumed by a call that may run out of memory, over a run of these parts
pub takes_if_ok : (got : GotLaw) (all : AllLaw) (bad : BadLaw) (push : PushLaw) {E : Type 0} (answer : Result ℕ E)
    (old : RunState) (d next : DecoderState) (r new : Course) (piece : List ℕ) (fed : Fed) (began ended : ℕ)
    → record { decoder = d; run = r } ≡ old → old.run.spent ≡ false → next ≡ decoder_after d piece fed
    → AnswersPiece d piece fed → 1 ≤ length piece → IfOk answer (λ n. Gets r fed (length piece) n new began ended)
    → IfOk answer (λ n. TakesFront old piece n (record { decoder = next; run = new }) began ended)
takes_if_ok got all bad push answer old d next r new piece fed began ended view stands is_next answers some gets =
    subst (λ (x : DecoderState). IfOk answer (λ n. TakesFront old piece n (record { decoder = x; run = new }) began ended)) (sym is_next)
    (subst (λ (s : RunState). IfOk answer (λ n. TakesFront s piece n (record { decoder = decoder_after d piece fed; run = new }) began ended)) view
    (elim answer as (λ a. IfOk a (λ n. Gets r fed (length piece) n new began ended) → IfOk a (λ n. TakesFront (record { decoder = d; run = r }) piece n (record { decoder = decoder_after d piece fed; run = new }) began ended)) [
      | Ok n ↦ λ g. (let taken = some_taken d r new piece fed n began ended some answers g in record {
        some = taken.0;
        within = taken.1;
        takes = takes got all bad push d r piece (ap (λ (s : RunState). s.run.spent) view ∙ stands) fed n new began ended answers g;
      })
      | Err e ↦ λ g. tt
    ] gets))

-- ---- one after another

pub takes_nothing : (s : RunState) (began : ℕ) → s.run.spent ≡ false → Takes s [] s began began
takes_nothing s began stands = record {
  run = λ source profile before run. subst (λ (b : List ℕ). HasRun source profile b s) (sym (append-nil before)) run;
  offset = omega arith;
  resolution = refl;
  stands = stands;
  paid = λ source profile before start same paid. subst (λ (b : List ℕ). HasPaid source profile b s start began) (sym (append-nil before)) paid;
}

takes_more : (s t u : RunState) (xs ys : List ℕ) (i j k : ℕ) → Takes s xs t i j → Takes t ys u j k
    → Takes s (xs ++ ys) u i k
takes_more s t u xs ys i j k a b = record {
  run = λ source profile before run. subst (λ (bytes : List ℕ). HasRun source profile bytes u) (append_assoc before xs ys) (b.run source profile (before ++ xs) (a.run source profile before run));
  offset = (let length_is = length-append xs ys in omega (arith, length_is, a.offset, b.offset));
  resolution = b.resolution ∙ a.resolution;
  stands = b.stands;
  paid = λ source profile before start same paid.
      subst (λ (bytes : List ℕ). HasPaid source profile bytes u start k) (append_assoc before xs ys) (b.paid source profile (before ++ xs) start (a.resolution ∙ same) (a.paid source profile before start same paid));
}

pub takes_next : (s t u : RunState) (piece : List ℕ) (at n i j k : ℕ) → Takes s (take at piece) t i j
    → Takes t (take n (drop at piece)) u j k → Takes s (take (at + n) piece) u i k
takes_next s t u piece at n i j k a b = subst (λ (bytes : List ℕ). Takes s bytes u i k) (sym (take-add at n piece)) (takes_more s t u (take at piece) (take n (drop at piece)) i j k a b)

-- ---- heads

-- the first of some bytes, put together again from its low three bits and the others
pub known_head : (piece : List ℕ) (low : ℕ) → 1 ≤ length piece → slice_index_or piece 0 0 % 8 ≡ low
    → (rest : List ℕ) × (piece ≡ (slice_index_or piece 0 0 / 8 * 8 + low) ∷ rest)
known_head [] low some e = absurd (omega arith)
known_head (head ∷ rest) low some e = (rest, (let same : head ≡ head / 8 * 8 + low = omega (arith, e) in ap (λ (n : ℕ). n ∷ rest) same))
