use Rattle.std.proofs.Common.{sym, ◌∙◌}
use Rattle.brick_arena.proofs.Filled.{filled-whole, known-whole}
use Rattle.brick_arena.proofs.chunk.Chunk.new.Goals as goal

pub invariant_of-result : goal.invariant_of-result
invariant_of-result c =
    let words = c.set_zeros.new.self in
    (filled-whole c.in-Some.words.words words.words c.set_zeros.ensures.zeros words.count, c.in-Some.ensures.1, c.in-Some.ensures.2 ∙ sym c.set_zeros.ensures.place)

pub returns : goal.returns
returns c = let words = c.set_zeros.new.self in known-whole c.in-Some.words.words words.words c.set_zeros.ensures.zeros words.count
