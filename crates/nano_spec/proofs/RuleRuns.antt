-- Worked examples of broken rules, each by computing.
use Rattle.std.proofs.Common.{refl}
use Rattle.nano_spec.specs.State.{seed_numbers}
use Rattle.nano_spec.specs.WorkedRules.{OrderOfRules, MeetingGroups}
use Rattle.nano_spec.proofs.Showing.{shown}

pub order_of_rules : OrderOfRules
unfolding seed_numbers
order_of_rules = record {
  the_trace_ends_first = shown 3 refl refl refl refl refl refl refl;
  the_lesser_bid_comes_first = shown 3 refl refl refl refl refl refl refl;
  a_halt_beside_another_bot_off_the_origin = shown 3 refl refl refl refl refl refl refl;
  a_halt_off_the_origin_under_high_harmonics = shown 4 refl refl refl refl refl refl refl;
  a_blocked_move_out_of_space = shown 3 refl refl refl refl refl refl refl;
  a_fission_out_of_space = shown 2 refl refl refl refl refl refl refl;
  a_region_out_of_space = shown 2 refl refl refl refl refl refl refl;
  a_fusion_out_of_space = shown 2 refl refl refl refl refl refl refl;
  a_fission_into_a_full_voxel = shown 3 refl refl refl refl refl refl refl;
  a_bot_stands_in_its_region = shown 2 refl refl refl refl refl refl refl;
  a_bot_breaks_a_rule_where_groups_meet = shown 3 refl refl refl refl refl refl refl;
  a_command_follows_a_wrong_result = shown 2 refl refl refl refl refl refl refl;
  a_secondary_leaves_space = shown 2 refl refl refl refl refl refl refl;
  a_bot_stands_in_the_region_that_it_voids = shown 2 refl refl refl refl refl refl refl;
  a_forbidden_command_out_of_space = shown 2 refl refl refl refl refl refl refl;
}

pub meeting_groups : MeetingGroups
unfolding seed_numbers
meeting_groups = record {
  two_bots_fill_one_voxel = shown 3 refl refl refl refl refl refl refl;
  two_bots_void_one_voxel = shown 3 refl refl refl refl refl refl refl;
  two_bots_are_born_at_one_place = shown 3 refl refl refl refl refl refl refl;
  two_bots_exchange_places = shown 3 refl refl refl refl refl refl refl;
  a_waiting_bot_is_met = shown 3 refl refl refl refl refl refl refl;
  a_flipping_bot_is_met = shown 3 refl refl refl refl refl refl refl;
  a_primary_is_met = shown 4 refl refl refl refl refl refl refl;
  a_secondary_is_met = shown 4 refl refl refl refl refl refl refl;
  a_second_leg_meets_a_bot = shown 3 refl refl refl refl refl refl refl;
  a_member_is_met_at_its_position = shown 4 refl refl refl refl refl refl refl;
  a_region_is_met = shown 4 refl refl refl refl refl refl refl;
  the_least_leader_is_answered = shown 4 refl refl refl refl refl refl refl;
  a_leader_meets_two_groups = shown 4 refl refl refl refl refl refl refl;
  a_first_leg_meets_a_bot = shown 3 refl refl refl refl refl refl refl;
  a_filling_bot_is_met = shown 3 refl refl refl refl refl refl refl;
  a_voiding_bot_is_met = shown 3 refl refl refl refl refl refl refl;
  a_parent_is_met = shown 3 refl refl refl refl refl refl refl;
  a_filled_region_is_met = shown 4 refl refl refl refl refl refl refl;
}
