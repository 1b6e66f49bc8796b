use Rattle.std.proofs.Common.{[], get_or, set, unwrap_or, refl, ap, subst, ◌∙◌, arith}
use Rattle.std.proofs.lemmas.List.{get_or-set_same}
use Rattle.std.specs.FinMap.{insert}
use Rattle.brick_arena.specs.Slots.{words_of, AreSlots, swapped}
use Rattle.brick_arena.proofs.LiveSlots.{get-insert_here}
use Rattle.brick_arena.proofs.SlotWords.{swapped_below}
use Rattle.brick_arena.proofs.Standing.{live_at, are_slots}
use Rattle.brick_arena.proofs.Written.{view_written, arena_written}
use Rattle.brick_arena.proofs.Bricks.set_word_at.Goals as goal

pub store-requires-clause-inside : goal.store-requires-clause-inside
store-requires-clause-inside g c =
    let inside = c.self.inside in
    let at = live_at inside.chunks.items inside.first_vacant inside.vacant inside.reached c.self.invariant c.args.self.now c.self.view_is c.args.slot c.requires.live in
    omega (arith, at.2, c.requires.place, c.place.ensures)

pub invariant_of-self : goal.invariant_of-self
invariant_of-self g c =
    let inside = c.self.inside in let slot = c.args.slot in let at_place = c.args.at in
    let at = live_at inside.chunks.items inside.first_vacant inside.vacant inside.reached c.self.invariant c.args.self.now c.self.view_is slot c.requires.live in
    arena_written inside.chunks.items c.store.new.chunks.items inside.first_vacant inside.vacant inside.reached slot at_place c.args.word c.place.result c.self.invariant c.store.ensures c.place.ensures c.requires.place at.0 at.1

pub returns-clause-value : goal.returns-clause-value
returns-clause-value g c =
    let inside = c.self.inside in let slot = c.args.slot in let at_place = c.args.at in
    let at = live_at inside.chunks.items inside.first_vacant inside.vacant inside.reached c.self.invariant c.args.self.now c.self.view_is slot c.requires.live in
    view_written inside.chunks.items c.store.new.chunks.items inside.first_vacant inside.vacant inside.reached slot at_place c.args.word c.place.result c.self.invariant c.store.ensures c.place.ensures c.requires.place at.0 at.1
    ∙ ap (λ v. insert v slot (set (words_of v slot) (swapped at_place) c.args.word)) c.self.view_is

pub returns-clause-slots : goal.returns-clause-slots
returns-clause-slots g c =
    let inside = c.self.inside in are_slots c.store.new.chunks.items inside.first_vacant inside.vacant inside.reached (invariant_of-self g c)

pub returns-clause-written : goal.returns-clause-written
returns-clause-written g c =
    let inside = c.self.inside in
    let slot = c.args.slot in
    let at_place = c.args.at in
    let old = c.args.self.now in
    let slots = subst AreSlots c.self.view_is (are_slots inside.chunks.items inside.first_vacant inside.vacant inside.reached c.self.invariant) in
    ap (λ v. get_or (words_of v slot) (swapped at_place) 0) (returns-clause-value g c)
    ∙ ap (λ o. get_or (unwrap_or o []) (swapped at_place) 0) (get-insert_here old slot (set (words_of old slot) (swapped at_place) c.args.word) slot refl)
    ∙ get_or-set_same (words_of old slot) (swapped at_place) c.args.word 0 (let long = slots.lengths slot c.requires.live in let below = swapped_below at_place c.requires.place in omega (arith, long, below))
