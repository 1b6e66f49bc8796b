use Rattle.std.proofs.Common.{replicate, sym, subst}
use Rattle.brick_arena.specs.Slots.{IsLive}
use Rattle.support_forest.proofs.Store.{still_live}
use Rattle.voxel_tests.proofs.bricks.taken.Goals as goal

pub returns-in-Ok-clause-others : goal.returns-in-Ok-clause-others
returns-in-Ok-clause-others g c slot live = subst (λ v. IsLive v slot) (sym c.in-Ok.ensures.zeros) (still_live c.args.bricks.now c.in-Ok.slot (replicate 512 0) slot live)

pub returns-clause-others : goal.returns-clause-others
returns-clause-others g c slot live =
    let before = subst (λ v. IsLive v slot) (sym c.in_default.ensures.err) live in
    subst (λ v. IsLive v slot) (sym c.in_ok-slot.ensures.zeros) (still_live c.take.new.self c.in_ok-slot.slot (replicate 512 0) slot before)
