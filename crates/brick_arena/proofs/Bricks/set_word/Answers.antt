use Rattle.std.proofs.Common.{◌≡◌, ◌∙◌, ap, arith, get_or, set, sym}
use Rattle.std.specs.FinMap.{insert}
use Rattle.brick_arena.specs.Slots.{swapped, words_of}
use Rattle.brick_arena.proofs.SlotWords.{swapped_below, swapped_twice}
use Rattle.brick_arena.proofs.Bricks.set_word.Goals as goal

pub set_word_at-requires-clause-place : goal.set_word_at-requires-clause-place
set_word_at-requires-clause-place g c = let below = swapped_below c.args.index c.requires.index in let place = c.swapped.ensures in omega arith

pub returns-clause-value : goal.returns-clause-value
returns-clause-value g c =
    let index : swapped c.swapped.result ≡ c.args.index = ap swapped c.swapped.ensures ∙ swapped_twice c.args.index c.requires.index in
    c.set_word_at.ensures.value
    ∙ ap (λ i. insert c.args.self.now c.args.slot (set (words_of c.args.self.now c.args.slot) i c.args.word)) index

pub returns-clause-written : goal.returns-clause-written
returns-clause-written g c =
    let index : swapped c.swapped.result ≡ c.args.index = ap swapped c.swapped.ensures ∙ swapped_twice c.args.index c.requires.index in
    ap (λ i. get_or (words_of c.set_word_at.new.self c.args.slot) i 0) (sym index) ∙ c.set_word_at.ensures.written
