use Rattle.std.proofs.Common.{◌≡◌, ℕ, ◌-◌, [], ◌++◌, length, length-append, subst, ap, arith}
use Rattle.nano_spec.specs.Cutting.{BeginsSpelling}
use Rattle.trace_codec.specs.Decoder.{DecoderState}
use Rattle.trace_codec.specs.One.{BeginsWith}
use Rattle.trace_codec.specs.declared.one.One.{One}
use Rattle.trace_codec.proofs.Pieces.{begins_short, ends_later, completes}
use Rattle.trace_codec.proofs.decoder.Decoder.take.Goals as goal

pub overflow_sub-used : goal.overflow_sub-used
overflow_sub-used c =
    let begins = subst (λ (d : DecoderState). BeginsSpelling d.held) c.self.view_is c.self.invariant in
    let got = subst (λ (o : One). BeginsWith (c.args.self.now.held ++ c.args.piece.now) o) c.in-Got.is c.requires.says in
    let later = ends_later c.args.self.now.held c.args.piece.now c.in-Got.command c.in-Got.len begins got in
    let same : length c.self.inside.held.items ≡ length c.args.self.now.held = ap (λ (d : DecoderState). length d.held) c.self.view_is in
    omega arith

pub unwrap-requires : goal.unwrap-requires
unwrap-requires c =
    let more = subst (λ (o : One). BeginsWith (c.args.self.now.held ++ c.args.piece.now) o) c.in-More.is c.requires.says in
    let short = begins_short (c.args.self.now.held ++ c.args.piece.now) more in
    let same : length c.self.inside.held.items ≡ length c.args.self.now.held = ap (λ (d : DecoderState). length d.held) c.self.view_is in
    c.try_extend_from_slice.ensures.variant.1 (omega (arith, length-append c.args.self.now.held c.args.piece.now))

pub returns-in-Got-clause-answer : goal.returns-in-Got-clause-answer
returns-in-Got-clause-answer c =
    let begins = subst (λ (d : DecoderState). BeginsSpelling d.held) c.self.view_is c.self.invariant in
    let got = subst (λ (o : One). BeginsWith (c.args.self.now.held ++ c.args.piece.now) o) c.in-Got.is c.requires.says in
    let same : length c.self.inside.held.items ≡ length c.args.self.now.held = ap (λ (d : DecoderState). length d.held) c.self.view_is in
    completes c.args.self.now c.args.piece.now c.in-Got.command c.in-Got.len (c.from.result - c.len.result) c.requires.works begins got (omega arith)

pub returns-in-Got-clause-taken : goal.returns-in-Got-clause-taken
returns-in-Got-clause-taken c =
    let begins = subst (λ (d : DecoderState). BeginsSpelling d.held) c.self.view_is c.self.invariant in
    let got = subst (λ (o : One). BeginsWith (c.args.self.now.held ++ c.args.piece.now) o) c.in-Got.is c.requires.says in
    let later = ends_later c.args.self.now.held c.args.piece.now c.in-Got.command c.in-Got.len begins got in
    let same : length c.self.inside.held.items ≡ length c.args.self.now.held = ap (λ (d : DecoderState). length d.held) c.self.view_is in
    let at : c.self.inside.offset ≡ c.args.self.now.offset = ap (λ (d : DecoderState). d.offset) c.self.view_is in
    let cleared : length c.clear.new.self.items ≡ length {A = ℕ} [] = ap length c.clear.ensures in
    omega arith

pub returns-in-Bad-clause-held : goal.returns-in-Bad-clause-held
returns-in-Bad-clause-held c = let short = begins_short c.self.inside.held.items c.self.invariant in omega arith
