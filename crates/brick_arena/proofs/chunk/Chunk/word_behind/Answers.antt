use Rattle.std.proofs.Common.{◌≡◌, ◌+◌, length, get_or, sym, ap, ◌∙◌, arith}
use Rattle.brick_arena.proofs.Filled.{filled_at, known-length, known-get}
use Rattle.brick_arena.proofs.chunk.Chunk.word_behind.Goals as goal

pub get_behind-requires : goal.get_behind-requires
get_behind-requires g c =
    let ws = c.self.inside.words.words in
    let same_length : length c.args.self.now ≡ length ws = ap length (sym c.self.view_is) ∙ known-length ws in
    filled_at ws (c.args.index + c.args.behind) c.self.invariant.0 (omega (arith, same_length, c.requires))

pub returns-clause-value : goal.returns-clause-value
returns-clause-value g c =
    let ws = c.self.inside.words.words in
    sym (known-get ws (c.args.index + c.args.behind) c.get_behind.result c.get_behind.ensures) ∙ ap (λ l. get_or l (c.args.index + c.args.behind) 0) c.self.view_is
