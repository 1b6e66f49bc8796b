use Rattle.std.proofs.Common.{◌+◌, ap, ◌∙◌, arith}
use Rattle.std.specs.FinMap.{remove}
use Rattle.brick_arena.proofs.GivenBack.{view_given, arena_given}
use Rattle.brick_arena.proofs.Standing.{live_at, are_slots}
use Rattle.brick_arena.proofs.Bricks.give.Goals as goal

pub store-requires-clause-inside : goal.store-requires-clause-inside
store-requires-clause-inside c =
    let inside = c.self.inside in
    let at = live_at inside.chunks.items inside.first_vacant inside.vacant inside.reached c.self.invariant c.args.self.now c.self.view_is c.args.slot c.requires in
    omega (arith, at.2, c.place.ensures)

pub invariant_of-self : goal.invariant_of-self
invariant_of-self c =
    let inside = c.self.inside in let slot = c.args.slot in
    let at = live_at inside.chunks.items inside.first_vacant inside.vacant inside.reached c.self.invariant c.args.self.now c.self.view_is slot c.requires in
    arena_given inside.chunks.items c.store.new.chunks.items inside.first_vacant inside.vacant inside.reached slot c.place.result c.self.invariant c.store.ensures c.place.ensures at.0 at.1

pub returns-clause-value : goal.returns-clause-value
returns-clause-value c =
    let inside = c.self.inside in let slot = c.args.slot in
    let at = live_at inside.chunks.items inside.first_vacant inside.vacant inside.reached c.self.invariant c.args.self.now c.self.view_is slot c.requires in
    view_given inside.chunks.items c.store.new.chunks.items inside.first_vacant inside.vacant inside.reached slot c.place.result c.self.invariant c.store.ensures c.place.ensures at.0 at.1
    ∙ ap (λ v. remove v slot) c.self.view_is

pub returns-clause-slots : goal.returns-clause-slots
returns-clause-slots c =
    let inside = c.self.inside in are_slots c.store.new.chunks.items c.args.slot (inside.vacant + 1) inside.reached (invariant_of-self c)
