use Rattle.std.proofs.Common.{get_or, sym, subst, arith}
use Rattle.brick_arena.specs.Slots.{IsLive}
use Rattle.voxel_tests.proofs.LiveSlots.{live-remove}
use Rattle.voxel_tests.proofs.bricks.reused.Goals as goal

pub give-requires-2 : goal.give-requires-2
give-requires-2 g c =
    let slots = c.in_ok-slots.slots in
    subst (λ v. IsLive v (get_or slots 68 0)) (sym c.give.ensures.value)
    (live-remove c.seventy.new.bricks (get_or slots 3 0) (get_or slots 68 0) (λ e. absurd (omega (arith, e))) (c.in_ok-slots.ensures 68 (omega arith)))

pub assert_marked-requires : goal.assert_marked-requires
assert_marked-requires g c k lt not_fourth not_late =
    let slots = c.in_ok-slots.slots in
    let slot = get_or slots k 0 in
    let without_fourth = subst (λ v. IsLive v slot) (sym c.give.ensures.value) (live-remove c.seventy.new.bricks (get_or slots 3 0) slot not_fourth (c.in_ok-slots.ensures k lt)) in
    let without_both = subst (λ v. IsLive v slot) (sym c.give-2.ensures.value) (live-remove c.give.new.self (get_or slots 68 0) slot not_late without_fourth) in
    c.in_ok-second.ensures.others slot (c.in_ok-first.ensures.others slot without_both)
