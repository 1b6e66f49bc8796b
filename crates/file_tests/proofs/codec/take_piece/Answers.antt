use Rattle.std.proofs.Common.{◌≡◌, ◌-◌, ℕ, List, ◌++◌, length, take, drop, refl, sym, ◌∙◌, ap, subst, arith}
use Rattle.std.proofs.lemmas.List.{append_assoc, length-take, length-drop, take-append-drop, take_rest}
use Rattle.std.specs.Prelude.{Err}
use Rattle.nano_spec.specs.declared.commands.Command.{Command}
use Rattle.nano_spec.specs.Cutting.{BadAt, Decoding}
use Rattle.trace_codec.specs.Decoder.{DecoderState, HasTaken}
use Rattle.file_tests.proofs.codec.take_piece.Goals as goal

moved : (bytes : List ℕ) (cs ds : List Command) (d e : DecoderState) → ds ≡ cs → e ≡ d → HasTaken bytes cs d
    → HasTaken bytes ds e
moved bytes cs ds d e p q h = subst (λ (x : DecoderState). HasTaken bytes ds x) (sym q) (subst (λ (x : List Command). HasTaken bytes x d) (sym p) h)

step : (bytes front rest piece : List ℕ) (used : ℕ) (commands : List Command) (decoder : DecoderState)
    → front ++ rest ≡ piece → HasTaken ((bytes ++ front) ++ take used rest) commands decoder
    → (x : List ℕ) × (x ++ take (length rest - used) (drop used rest) ≡ piece) × HasTaken (bytes ++ x) commands decoder
step bytes front rest piece used commands decoder e h = (
  front ++ take used rest,
  append_assoc front (take used rest) _ ∙ (ap (λ x. front ++ (take used rest ++ x)) (take_rest rest used) ∙ (ap (λ x. front ++ x) (take-append-drop used rest) ∙ e)),
  subst (λ (b : List ℕ). HasTaken b commands decoder) (append_assoc bytes front (take used rest)) h,
)

pub loop-command-preserved : goal.loop-command-preserved
loop-command-preserved c = (
  λ bytes taken.
      let before = c.loop-command.invariant.0 bytes taken in
      let law = c.pieces_decode.ensures.got (bytes ++ before.0) c.loop-command.rest.now c.loop-command.commands c.loop-command.decoder c.in-Got.command c.in-Got.used before.2 c.in-Got.ensures.answer in
      step bytes before.0 c.loop-command.rest.now c.args.piece.now c.in-Got.used c.push.new.self c.feed.new.self before.1 (moved _ _ _ _ _ c.in_ok-push-in-Got.ensures.ok c.in-Got.ensures.after law),
  (let within = c.in-Got.ensures.answer.within in
      let before = c.loop-command.invariant.1 in
      let now = c.in-Got.ensures.taken in
      omega (arith, length-take (length c.loop-command.rest.now - c.in-Got.used) (drop c.in-Got.used c.loop-command.rest.now), length-drop c.in-Got.used c.loop-command.rest.now)),
)

pub returns-in-All-clause-ok : goal.returns-in-All-clause-ok
returns-in-All-clause-ok c = λ bytes taken.
    let before = c.loop-command.invariant.0 bytes taken in
    let law = c.pieces_decode.ensures.all (bytes ++ before.0) c.loop-command.rest.now c.loop-command.commands c.loop-command.decoder before.2 c.in-All.ensures.answer in
    subst (λ (b : List ℕ). HasTaken b c.loop-command.commands c.feed.new.self) (append_assoc bytes before.0 c.loop-command.rest.now ∙ ap (λ x. bytes ++ x) before.1) (moved _ _ _ _ _ refl c.in-All.ensures.after law)

pub returns-in-Bad-clause-err : goal.returns-in-Bad-clause-err
returns-in-Bad-clause-err c = λ bytes more taken.
    let before = c.loop-command.invariant.0 bytes taken in
    let law = c.pieces_decode.ensures.bad (bytes ++ before.0) c.loop-command.rest.now more c.loop-command.commands c.loop-command.decoder c.in-Bad.offset before.2 c.in-Bad.ensures.answer in
    subst (λ (b : List ℕ). Decoding (b ++ more) (Err (BadAt c.in-Bad.offset))) (append_assoc bytes before.0 c.loop-command.rest.now ∙ ap (λ x. bytes ++ x) before.1) law
