use Rattle.std.proofs.Common.{ap, subst, ◌∙◌, arith}
use Rattle.brick_arena.specs.Slots.{AreSlots, swapped, with_row}
use Rattle.brick_arena.proofs.SlotWords.{row_ends}
use Rattle.brick_arena.proofs.Standing.{live_at, are_slots}
use Rattle.brick_arena.proofs.Written.{arena_with_row, row_last, view_with_row}
use Rattle.brick_arena.proofs.Bricks.set_row.Goals as goal

pub store_row-requires-clause-inside : goal.store_row-requires-clause-inside
store_row-requires-clause-inside g c =
    let inside = c.self.inside in
    let at = live_at inside.chunks.items inside.first_vacant inside.vacant inside.reached c.self.invariant c.args.self.now c.self.view_is c.args.slot c.requires.live in
    omega (arith, at.2, c.requires.place, c.requires.row, c.place.ensures)

pub store_row-requires-clause-row : goal.store_row-requires-clause-row
store_row-requires-clause-row g c = omega (arith, c.requires.place, c.requires.row, c.place.ensures)

pub invariant_of-self : goal.invariant_of-self
invariant_of-self g c =
    let inside = c.self.inside in
    let at = live_at inside.chunks.items inside.first_vacant inside.vacant inside.reached c.self.invariant c.args.self.now c.self.view_is c.args.slot c.requires.live in
    arena_with_row inside.chunks.items c.store_row.new.chunks.items inside.first_vacant inside.vacant inside.reached c.args.slot c.args.at c.args.word c.place.result c.self.invariant c.store_row.ensures c.place.ensures c.requires.place c.requires.row at.0 at.1

pub returns-clause-value : goal.returns-clause-value
returns-clause-value g c =
    let inside = c.self.inside in
    let at = live_at inside.chunks.items inside.first_vacant inside.vacant inside.reached c.self.invariant c.args.self.now c.self.view_is c.args.slot c.requires.live in
    view_with_row inside.chunks.items c.store_row.new.chunks.items inside.first_vacant inside.vacant inside.reached c.args.slot c.args.at c.args.word c.place.result c.self.invariant c.store_row.ensures c.place.ensures c.requires.place c.requires.row at.0 at.1
    ∙ ap (λ v. with_row v c.args.slot (swapped c.args.at) 8 c.args.word) c.self.view_is

pub returns-clause-written : goal.returns-clause-written
returns-clause-written g c k l =
    let inside = c.self.inside in
    let slots = subst AreSlots c.self.view_is (are_slots inside.chunks.items inside.first_vacant inside.vacant inside.reached c.self.invariant) in
    row_last c.args.self.now c.args.slot (swapped c.args.at) k c.args.word c.requires.live (slots.lengths c.args.slot c.requires.live)
    (let ends = row_ends c.args.at c.requires.place c.requires.row in omega (arith, l, ends))

pub returns-clause-slots : goal.returns-clause-slots
returns-clause-slots g c =
    let inside = c.self.inside in are_slots c.store_row.new.chunks.items inside.first_vacant inside.vacant inside.reached (invariant_of-self g c)
