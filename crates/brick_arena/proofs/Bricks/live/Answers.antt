use Rattle.std.proofs.Common.{subst}
use Rattle.brick_arena.specs.Slots.{AreSlots}
use Rattle.brick_arena.proofs.Standing.{are_slots}
use Rattle.brick_arena.proofs.Bricks.live.Goals as goal

pub returns-clause-slots : goal.returns-clause-slots
returns-clause-slots c =
    let inside = c.self.inside in
    subst AreSlots c.self.view_is (are_slots inside.chunks.items inside.first_vacant inside.vacant inside.reached c.self.invariant)
