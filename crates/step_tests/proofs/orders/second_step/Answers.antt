use Rattle.std.proofs.Common.{List, ℕ, sym, subst}
use Rattle.std.specs.Prelude.{IsPermutation}
use Rattle.nano_spec.specs.Act.{acts}
use Rattle.nano_spec.specs.Serial.{leader_bids}
use Rattle.step_tests.proofs.orders.second_step.Goals as goal

pub step_in_order-made-requires-clause-order : goal.step_in_order-made-requires-clause-order
step_in_order-made-requires-clause-order g c =
    subst (λ (bids : List ℕ). IsPermutation (leader_bids (acts c.assert_made.new.machine.state.bots c.args.commands.now)) bids) (sym c.as_slice.ensures.value) c.order_of-order.ensures
