use Rattle.std.proofs.Common.{◌≡◌, ℕ, ◌<◌, length, get_or}
use Rattle.brick_arena.specs.Slots.{IsLive}
use Rattle.voxel_tests.proofs.bricks.seventy.Given as goal

abbrev pub invariant-loop-k : goal.invariant-loop-k
invariant-loop-k g l = (length l.slots ≡ 70) × ((j : ℕ) → j < l.k → IsLive l.bricks (get_or l.slots j 0))
