use Rattle.std.proofs.Common.{List, ℕ, sym, subst}
use Rattle.std.specs.Prelude.{IsPermutation}
use Rattle.nano_spec.specs.Act.{acts}
use Rattle.nano_spec.specs.Serial.{leader_bids}
use Rattle.step_tests.proofs.orders.made_and_undone.Goals as goal

pub step_noted-requires-clause-order : goal.step_noted-requires-clause-order
step_noted-requires-clause-order g c =
    subst (λ (bids : List ℕ). IsPermutation (leader_bids (acts c.args.machine.now.state.bots c.args.commands.now)) bids) (sym c.as_slice.ensures.value) c.leaders_of-order.ensures
