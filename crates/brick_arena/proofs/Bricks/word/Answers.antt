use Rattle.std.proofs.Common.{◌∙◌, ap, arith, get_or}
use Rattle.brick_arena.specs.Slots.{swapped, words_of}
use Rattle.brick_arena.proofs.SlotWords.{swapped_below, swapped_twice}
use Rattle.brick_arena.proofs.Bricks.word.Goals as goal

pub word_at-requires-clause-place : goal.word_at-requires-clause-place
word_at-requires-clause-place g c = let below = swapped_below c.args.index c.requires.index in let place = c.swapped.ensures in omega arith

pub returns-clause-value : goal.returns-clause-value
returns-clause-value g c =
    c.word_at.ensures.value
    ∙ ap (λ i. get_or (words_of c.args.self.now c.args.slot) i 0) (ap swapped c.swapped.ensures ∙ swapped_twice c.args.index c.requires.index)
