use Rattle.std.proofs.Common.{◌+◌, ◌-◌, ◌≤◌, replicate, is_some, refl, sym, ap, subst, ◌∙◌, arith}
use Rattle.std.specs.FinMap.{get, insert, len}
use Rattle.brick_arena.specs.Arena.{IsArena}
use Rattle.brick_arena.proofs.LiveSlots.{get-insert_here}
use Rattle.brick_arena.proofs.Standing.{are_slots}
use Rattle.brick_arena.proofs.TakenNew.{new_fresh, view_new, arena_new}
use Rattle.brick_arena.proofs.TakenVacant.{vacant_inside, vacant_fresh, view_taken, arena_taken}
use Rattle.brick_arena.proofs.Bricks.take.Goals as goal

-- a slot that was never reached

pub returns-in_err-reserve-clause-slots : goal.returns-in_err-reserve-clause-slots
returns-in_err-reserve-clause-slots c =
    let inside = c.self.inside in
    are_slots c.reserve.new.chunks.items inside.first_vacant inside.vacant inside.reached
    (subst (λ cs. IsArena cs inside.first_vacant inside.vacant inside.reached) (sym c.in_err-reserve.ensures.err) c.self.invariant)

pub invariant_of-self-then-self-eq0 : goal.invariant_of-self-then-self-eq0
invariant_of-self-then-self-eq0 c =
    let inside = c.self.inside in let same = ap len c.self.view_is in
    let fits : inside.reached + 1 ≤ 1048576 = omega (arith, c.self.invariant.count, same, c.requires, c.if-self-eq0.true) in
    arena_new inside.chunks.items inside.first_vacant inside.vacant inside.reached c.self.invariant c.reserve.new.chunks.items c.in_ok-reserve.ensures.ok fits

pub returns-then-self-eq0-clause-fresh : goal.returns-then-self-eq0-clause-fresh
returns-then-self-eq0-clause-fresh c =
    let inside = c.self.inside in
    ap (λ v. get v inside.reached) (sym c.self.view_is) ∙ new_fresh inside.chunks.items inside.first_vacant inside.vacant inside.reached c.self.invariant

pub returns-then-self-eq0-clause-zeros : goal.returns-then-self-eq0-clause-zeros
returns-then-self-eq0-clause-zeros c =
    let inside = c.self.inside in let same = ap len c.self.view_is in
    let fits : inside.reached + 1 ≤ 1048576 = omega (arith, c.self.invariant.count, same, c.requires, c.if-self-eq0.true) in
    view_new inside.chunks.items inside.first_vacant inside.vacant inside.reached c.self.invariant c.reserve.new.chunks.items c.in_ok-reserve.ensures.ok fits
    ∙ ap (λ v. insert v inside.reached (replicate 512 0)) c.self.view_is

pub returns-then-self-eq0-clause-slots : goal.returns-then-self-eq0-clause-slots
returns-then-self-eq0-clause-slots c =
    let inside = c.self.inside in are_slots c.reserve.new.chunks.items inside.first_vacant inside.vacant (inside.reached + 1) (invariant_of-self-then-self-eq0 c)

-- the first of the vacant slots

pub load-self-inside-requires-clause-inside : goal.load-self-inside-requires-clause-inside
load-self-inside-requires-clause-inside c =
    let inside = c.self.inside in
    let lt = vacant_inside inside.chunks.items inside.first_vacant inside.vacant inside.reached c.self.invariant (omega (arith, c.if-self-eq0.false)) in
    omega (arith, lt, c.self.invariant.room, c.place.ensures)

pub clear-requires-clause-inside : goal.clear-requires-clause-inside
clear-requires-clause-inside c =
    let inside = c.self.inside in
    let lt = vacant_inside inside.chunks.items inside.first_vacant inside.vacant inside.reached c.self.invariant (omega (arith, c.if-self-eq0.false)) in
    omega (arith, lt, c.self.invariant.room)

pub invariant_of-self-2 : goal.invariant_of-self-2
invariant_of-self-2 c =
    let inside = c.self.inside in
    arena_taken inside.chunks.items inside.first_vacant inside.vacant inside.reached c.self.invariant (omega (arith, c.if-self-eq0.false)) c.clear.new.chunks.items c.load-self-inside.result c.place.result c.place.ensures c.load-self-inside.ensures c.clear.ensures

pub returns-clause-near : goal.returns-clause-near
returns-clause-near c =
    let inside = c.self.inside in
    let lt = vacant_inside inside.chunks.items inside.first_vacant inside.vacant inside.reached c.self.invariant (omega (arith, c.if-self-eq0.false)) in
    omega (arith, lt, c.self.invariant.limit)

pub returns-clause-fresh : goal.returns-clause-fresh
returns-clause-fresh c =
    let inside = c.self.inside in
    ap (λ v. get v inside.first_vacant) (sym c.self.view_is) ∙ vacant_fresh inside.chunks.items inside.first_vacant inside.vacant inside.reached c.self.invariant (omega (arith, c.if-self-eq0.false))

pub returns-clause-zeros : goal.returns-clause-zeros
returns-clause-zeros c =
    let inside = c.self.inside in
    view_taken inside.chunks.items inside.first_vacant inside.vacant inside.reached c.self.invariant (omega (arith, c.if-self-eq0.false)) c.clear.new.chunks.items c.load-self-inside.result c.place.result c.place.ensures c.load-self-inside.ensures c.clear.ensures
    ∙ ap (λ v. insert v inside.first_vacant (replicate 512 0)) c.self.view_is

pub returns-clause-slots : goal.returns-clause-slots
returns-clause-slots c =
    let inside = c.self.inside in are_slots c.clear.new.chunks.items c.load-self-inside.result (inside.vacant - 1) inside.reached (invariant_of-self-2 c)

pub returns-then-self-eq0-clause-live : goal.returns-then-self-eq0-clause-live
returns-then-self-eq0-clause-live c =
    ap (λ v. is_some (get v c.self.inside.reached)) (returns-then-self-eq0-clause-zeros c) ∙ ap is_some (get-insert_here c.args.self.now c.self.inside.reached (replicate 512 0) c.self.inside.reached refl)

pub returns-clause-live : goal.returns-clause-live
returns-clause-live c =
    ap (λ v. is_some (get v c.self.inside.first_vacant)) (returns-clause-zeros c) ∙ ap is_some (get-insert_here c.args.self.now c.self.inside.first_vacant (replicate 512 0) c.self.inside.first_vacant refl)
