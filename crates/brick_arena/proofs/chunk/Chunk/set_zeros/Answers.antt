use Rattle.std.proofs.Common.{◌≡◌, ◌+◌, ◌*◌, length, sym, ap, subst, ◌∙◌, arith}
use Rattle.brick_arena.specs.Chunks.{SetsRange}
use Rattle.brick_arena.specs.Known.{known}
use Rattle.brick_arena.proofs.Filled.{known-length, filled-range, known-range}
use Rattle.brick_arena.proofs.chunk.Chunk.set_zeros.Goals as goal

pub set_zeros-requires : goal.set_zeros-requires
set_zeros-requires c =
    let words = c.self.inside.words in
    let same_length : length c.args.self.now ≡ length words.words = ap length (sym c.self.view_is) ∙ known-length words.words in
    omega (arith, same_length, c.requires, words.count)

pub invariant_of-self : goal.invariant_of-self
invariant_of-self c =
    let old = c.self.inside.words in
    let new = c.set_zeros.new.self in (
      filled-range 0 old.words new.words c.args.start (c.args.start + 8 * c.args.rows) c.set_zeros.ensures.zeros c.self.invariant.0,
      c.self.invariant.1,
      c.self.invariant.2 ∙ sym c.set_zeros.ensures.place,
    )

pub returns : goal.returns
returns c =
    let old = c.self.inside.words in
    let new = c.set_zeros.new.self in
    subst (λ words. SetsRange 0 0 words (known new.words) c.args.start (c.args.start + 8 * c.args.rows)) c.self.view_is
    (known-range 0 old.words new.words c.args.start (c.args.start + 8 * c.args.rows) c.set_zeros.ensures.zeros)
