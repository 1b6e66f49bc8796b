use Rattle.std.proofs.Common.{◌≡◌, List, ℕ, ◌++◌, length, subst, sym, ap, arith}
use Rattle.nano_spec.specs.Cutting.{BeginsSpelling}
use Rattle.trace_codec.specs.Decoder.{DecoderState}
use Rattle.trace_codec.specs.One.{Spells}
use Rattle.trace_codec.proofs.Pieces.{completes}
use Rattle.trace_codec.proofs.decoder.Decoder.feed_from.Goals as goal

pub returns-in-Got-clause-answer : goal.returns-in-Got-clause-answer
returns-in-Got-clause-answer c =
    let begins = subst (λ (d : DecoderState). BeginsSpelling d.held) c.self.view_is c.self.invariant in
    let spells = subst (λ (held : List ℕ). Spells (held ++ c.args.piece.now) c.in-Got.command c.in-Got.len) (sym c.requires.between.0) c.in-Got.ensures in
    let none : length c.args.self.now.held ≡ 0 = ap length c.requires.between.0 in
    completes c.args.self.now c.args.piece.now c.in-Got.command c.in-Got.len c.from-in-Got.result c.requires.between.1 begins spells (omega arith)
