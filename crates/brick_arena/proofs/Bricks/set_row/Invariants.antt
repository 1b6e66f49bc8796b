use Rattle.std.proofs.Common.{◌≡◌, ◌+◌}
use Rattle.brick_arena.proofs.Bricks.set_row.Given as goal

abbrev pub invariant-loop : goal.invariant-loop
invariant-loop g l = l.steps ≡ l.fn.steps + l.counter
