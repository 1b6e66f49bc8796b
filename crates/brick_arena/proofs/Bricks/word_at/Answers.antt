use Rattle.std.proofs.Common.{◌≡◌, ◌+◌, ◌*◌, get_or, sym, ap, subst, ◌∙◌, arith}
use Rattle.brick_arena.specs.Chunks.{chunk_word}
use Rattle.brick_arena.specs.Slots.{words_of, AreSlots, swapped}
use Rattle.brick_arena.proofs.Standing.{words-live, live_at, are_slots, word_at_place}
use Rattle.brick_arena.proofs.Bricks.word_at.Goals as goal

pub load-requires-clause-inside : goal.load-requires-clause-inside
load-requires-clause-inside g c =
    let inside = c.self.inside in
    let at = live_at inside.chunks.items inside.first_vacant inside.vacant inside.reached c.self.invariant c.args.self.now c.self.view_is c.args.slot c.requires.live in
    omega (arith, at.2, c.requires.place, c.place.ensures)

pub returns-clause-value : goal.returns-clause-value
returns-clause-value g c =
    let inside = c.self.inside in let slot = c.args.slot in let at_place = c.args.at in let chunk_word_here = chunk_word inside.chunks.items in
    let at = live_at inside.chunks.items inside.first_vacant inside.vacant inside.reached c.self.invariant c.args.self.now c.self.view_is slot c.requires.live in
    let place : c.place.result ≡ 512 * slot + at_place = omega (arith, c.place.ensures) in
    c.load.ensures ∙ ap chunk_word_here place ∙ sym (word_at_place inside.chunks.items inside.first_vacant inside.vacant inside.reached c.self.invariant slot at_place c.requires.place)
    ∙ sym (ap (λ words. get_or words (swapped at_place) 0) (words-live inside.chunks.items inside.first_vacant inside.vacant inside.reached c.self.invariant slot at.0 at.1))
    ∙ ap (λ v. get_or (words_of v slot) (swapped at_place) 0) c.self.view_is

pub returns-clause-slots : goal.returns-clause-slots
returns-clause-slots g c =
    let inside = c.self.inside in
    subst AreSlots c.self.view_is (are_slots inside.chunks.items inside.first_vacant inside.vacant inside.reached c.self.invariant)
