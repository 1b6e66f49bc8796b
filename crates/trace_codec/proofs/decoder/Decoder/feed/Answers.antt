use Rattle.std.proofs.Common.{subst, arith}
use Rattle.nano_spec.specs.Cutting.{BeginsSpelling}
use Rattle.trace_codec.specs.Decoder.{DecoderState}
use Rattle.trace_codec.proofs.Pieces.{Answers-unique, begins_short}
use Rattle.trace_codec.proofs.decoder.Decoder.feed.Goals as goal

pub returns-then-self-clause-held : goal.returns-then-self-clause-held
returns-then-self-clause-held c =
    let short = begins_short c.args.self.now.held (subst (λ (d : DecoderState). BeginsSpelling d.held) c.self.view_is c.self.invariant) in
    omega arith

pub returns-clause-only : goal.returns-clause-only
returns-clause-only c = λ other answers. Answers-unique c.args.self.now c.args.piece.now other c.take.result answers c.take.ensures.answer
