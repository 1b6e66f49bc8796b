use Rattle.std.proofs.Common.{◌≡◌}
use Rattle.machine_c.specs.Told.{bot_told}
use Rattle.machine_c.proofs.Buffers.{written_to}
use Rattle.machine_c.proofs.reading.give_bots.Given as goal

-- the bots so far are written
abbrev pub invariant-loop-i : goal.invariant-loop-i
invariant-loop-i l = l.out ≡ written_to bot_told l.bots l.fn.out l.i
