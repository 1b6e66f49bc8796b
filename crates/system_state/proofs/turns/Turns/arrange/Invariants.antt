use Rattle.std.proofs.Common.{◌≡◌, map, take}
use Rattle.arrayvec.specs.ArrayVec.{array_vec_len}
use Rattle.step_order.proofs.Lists.{In}
use Rattle.system_state.specs.declared.turns.Turn.{Turn}
use Rattle.system_state.specs.Turns.{leader_of}
use Rattle.system_state.proofs.turns.Turns.arrange.Given as goal

abbrev pub invariant-loop-leader : goal.invariant-loop-leader
invariant-loop-leader l = record {
  leaders : map leader_of l.arranged.items ≡ take l.leader-index l.order;
  known : (t : Turn) → In t l.arranged.items → In t l.fn.self;
  len : array_vec_len l.arranged ≡ l.leader-index;
}
