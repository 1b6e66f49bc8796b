use Rattle.std.proofs.Common.{◌≡◌, ◌+◌, ◌-◌, ℕ, List, ◌++◌, take, drop, sym, ◌∙◌, ap, subst, arith, rules}
use Rattle.std.specs.Prelude.{Err}
use Rattle.std.proofs.lemmas.List.{length-drop, length-take, take-append-drop, take_all}
use Rattle.std.proofs.lemmas.Result.{err_from_is_err_and}
use Rattle.std.proofs.Math.Seq.{take-add}
use Rattle.trace_codec.specs.declared.fault.TraceFault.TheVariants.{Refused}
use Rattle.trace_codec.specs.Decoder.{HasTaken}
use Rattle.trace_codec.specs.Whole.{Decodes}
use Rattle.file_tests.proofs.codec.decode_in_pieces.Goals as goal

next : (bytes : List ℕ) (start more : ℕ)
    → take start bytes ++ take (start + more - start) (drop start bytes) ≡ take (start + more) bytes
next bytes start more =
    let difference_is : start + more - start ≡ more = omega arith in
    ap (λ k. take start bytes ++ take k (drop start bytes)) difference_is ∙ sym (take-add start more bytes)

pub loop-start-preserved : goal.loop-start-preserved
loop-start-preserved c = (
  omega arith,
  subst (λ (b : List ℕ). HasTaken b c.take_piece.new.commands c.take_piece.new.decoder) (next c.args.trace.now c.loop-start.start c.min.result) (c.in_ok-take_piece.ensures.ok (take c.loop-start.start c.args.trace.now) c.loop-start.invariant.1),
  (let count = c.in_ok-take_piece.ensures.count in
      let all = c.loop-start.invariant.2 in
      omega (arith, count, length-take (c.loop-start.start + c.min.result - c.loop-start.start) (drop c.loop-start.start c.args.trace.now), length-drop c.loop-start.start c.args.trace.now)),
)

pub returns-in_err-take_piece : goal.returns-in_err-take_piece
returns-in_err-take_piece c =
    let err_from = err_from_is_err_and c.from_residual.result c.from_residual.ensures.1 in
    let end = c.loop-start.start + c.min.result in
    let refused = c.in_err-take_piece.ensures.err (take c.loop-start.start c.args.trace.now) (drop end c.args.trace.now) c.loop-start.invariant.1 in
    rw (err_from.1, err_from.2) (subst (λ (b : List ℕ). Decodes b (Err c.in_err-take_piece.field-0.0)) (ap (λ b. b ++ drop end c.args.trace.now) (next c.args.trace.now c.loop-start.start c.min.result) ∙ take-append-drop end c.args.trace.now) refused)

pub returns-in_err-end : goal.returns-in_err-end
returns-in_err-end c =
    let is : c.from_residual-in_err-end.result ≡ Err (Refused c.in_err-end.field-0.0) = search rules in
    let ended = c.pieces_decode.ensures.cut (take c.loop-start.start c.args.trace.now) c.loop-start.commands c.loop-start.decoder c.in_err-end.field-0.0 c.loop-start.invariant.1 c.in_err-end.ensures in
    rw is (subst (λ (b : List ℕ). Decodes b (Err (Refused c.in_err-end.field-0.0))) (take_all c.loop-start.start c.args.trace.now c.loop-start-test.false) ended)
