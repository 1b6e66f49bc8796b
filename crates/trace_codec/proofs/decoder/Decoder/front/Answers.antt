use Rattle.std.proofs.Common.{◌≡◌, ◌++◌, length, subst, ap, ◌∙◌, arith}
use Rattle.std.proofs.lemmas.Bool.Decides.{nat_tests}
use Rattle.trace_codec.specs.Decoder.{DecoderState}
use Rattle.trace_codec.specs.One.{BeginsWith}
use Rattle.trace_codec.proofs.Pieces.{begins_short, says_alone, says_joined}
use Rattle.trace_codec.proofs.decoder.Decoder.front.Goals as goal
use Rattle.trace_codec.proofs.decoder.Decoder.front.Goals.{then-is_empty, else-is_empty}

pub returns : goal.returns
returns c =
    subst (λ (d : DecoderState). BeginsWith (d.held ++ c.args.piece.now) c.decode_one.result) c.self.view_is
    (elim c.if-is_empty.branch [
      | then-is_empty w ↦
          let none : length c.self.inside.held.items ≡ 0 = grind (arith, nat_tests, c.is_empty.ensures, w.if-is_empty.true) in
          says_alone c.self.inside.held.items c.args.piece.now c.if-is_empty.bytes.now c.decode_one.result none (ap (λ b. b.now) w.bytes-is) c.decode_one.ensures.answer
      | else-is_empty w ↦
          let held = w.as_slice.ensures.value in
          says_joined c.self.inside.held.items c.args.piece.now c.if-is_empty.bytes.now c.decode_one.result (begins_short c.self.inside.held.items c.self.invariant) (ap (λ b. b.now) w.bytes-is ∙ (w.as_slice-bytes.ensures.value ∙ rw held at w.join.ensures)) c.decode_one.ensures.answer
    ])
