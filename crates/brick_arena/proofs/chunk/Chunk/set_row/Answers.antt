use Rattle.std.proofs.Common.{◌≡◌, ◌+◌, length, sym, ap, subst, ◌∙◌, arith}
use Rattle.brick_arena.specs.Chunks.{SetsRange}
use Rattle.brick_arena.specs.Known.{known}
use Rattle.brick_arena.proofs.Filled.{known-length, filled-range, known-range}
use Rattle.brick_arena.proofs.chunk.Chunk.set_row.Goals as goal

pub set_row-requires : goal.set_row-requires
set_row-requires c =
    let words = c.self.inside.words in
    let same_length : length c.args.self.now ≡ length words.words = ap length (sym c.self.view_is) ∙ known-length words.words in
    omega (arith, same_length, c.requires, words.count)

pub invariant_of-self : goal.invariant_of-self
invariant_of-self c =
    let old = c.self.inside.words in
    let new = c.set_row.new.self in (
      filled-range c.args.word old.words new.words c.args.index (c.args.index + 8) c.set_row.ensures.0 c.self.invariant.0,
      c.self.invariant.1,
      c.self.invariant.2 ∙ sym c.set_row.ensures.1,
    )

pub returns : goal.returns
returns c =
    let old = c.self.inside.words in
    let new = c.set_row.new.self in
    subst (λ words. SetsRange c.args.word 0 words (known new.words) c.args.index (c.args.index + 8)) c.self.view_is
    (known-range c.args.word old.words new.words c.args.index (c.args.index + 8) c.set_row.ensures.0)
