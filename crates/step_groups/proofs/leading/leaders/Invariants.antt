use Rattle.std.proofs.Common.{◌≡◌, ◌≤◌}
use Rattle.arrayvec.specs.ArrayVec.{array_vec_len}
use Rattle.step_groups.proofs.Led.{led}
use Rattle.step_groups.proofs.leading.leaders.Given as goal

abbrev pub invariant-loop-i : goal.invariant-loop-i
invariant-loop-i l = record {
  bids : l.bids.items ≡ led l.bots l.commands l.i;
  len : array_vec_len l.bids ≤ l.i;
}
