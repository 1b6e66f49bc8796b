use Rattle.step_tests.proofs.orders.both_orders_of_two_groups_end_in_one_state.Given as goal

abbrev pub ghosts-orders : goal.ghosts-orders
ghosts-orders _ a = record { name = a.blank.name; parts = a.blank.parts }
