-- Worked examples of runs, each by computing.
use Rattle.std.proofs.Common.{refl}
use Rattle.nano_spec.specs.State.{seed_numbers}
use Rattle.nano_spec.specs.WorkedRuns.{AcceptedRuns, RefusedRuns, LightRuns}
use Rattle.nano_spec.proofs.Showing.{shown}

pub accepted_runs : AcceptedRuns
unfolding seed_numbers
accepted_runs = record {
  a_halt_pays_its_upkeep = shown 2 refl refl refl refl refl refl refl;
  one_voxel_is_filled = shown 5 refl refl refl refl refl refl refl;
  a_voxel_is_held_by_high_harmonics = shown 10 refl refl refl refl refl refl refl;
  a_fission_gives_all_seeds = shown 4 refl refl refl refl refl refl refl;
  two_flips_cancel = shown 5 refl refl refl refl refl refl refl;
  two_bots_fill_a_line = shown 7 refl refl refl refl refl refl refl;
  two_bots_void_a_line = shown 7 refl refl refl refl refl refl refl;
  a_full_voxel_is_filled = shown 5 refl refl refl refl refl refl refl;
  a_void_voxel_is_voided = shown 3 refl refl refl refl refl refl refl;
  a_ring_stands_on_its_other_post = shown 3 refl refl refl refl refl refl refl;
  the_least_resolution = shown 2 refl refl refl refl refl refl refl;
  a_move_round_a_corner_and_back = shown 4 refl refl refl refl refl refl refl;
  a_fusion_gives_all_seeds_back = shown 6 refl refl refl refl refl refl refl;
  the_lesser_bid_is_the_secondary = shown 5 refl refl refl refl refl refl refl;
  two_bots_fill_a_full_line = shown 7 refl refl refl refl refl refl refl;
  two_bots_void_a_void_line = shown 7 refl refl refl refl refl refl refl;
  legs_of_different_lengths = shown 5 refl refl refl refl refl refl refl;
  a_fusion_gives_the_secondarys_seeds = shown 6 refl refl refl refl refl refl refl;
}

pub refused_runs : RefusedRuns
unfolding seed_numbers
refused_runs = record {
  an_empty_trace_ends_before_the_first_step = shown 2 refl refl refl refl refl refl refl;
  a_trace_ends_after_a_wait = shown 3 refl refl refl refl refl refl refl;
  a_filled_voxel_floats = shown 4 refl refl refl refl refl refl refl;
  a_voxel_floats_once_harmonics_are_low = shown 6 refl refl refl refl refl refl refl;
  a_fission_asks_for_too_many_seeds = shown 2 refl refl refl refl refl refl refl;
  one_bot_alone_fills_a_line = shown 2 refl refl refl refl refl refl refl;
  both_members_are_at_one_corner = shown 3 refl refl refl refl refl refl refl;
  a_ring_does_not_ground_itself = shown 2 refl refl refl refl refl refl refl;
  a_second_bot_is_active_at_a_halt = shown 3 refl refl refl refl refl refl refl;
  a_halt_under_high_harmonics = shown 3 refl refl refl refl refl refl refl;
  a_halt_off_the_origin = shown 3 refl refl refl refl refl refl refl;
  a_command_follows_the_halt = shown 2 refl refl refl refl refl refl refl;
  the_result_is_not_the_target = shown 2 refl refl refl refl refl refl refl;
  a_command_follows_a_later_halt = shown 3 refl refl refl refl refl refl refl;
  a_later_result_is_not_the_target = shown 3 refl refl refl refl refl refl refl;
  a_bot_leaves_space = shown 2 refl refl refl refl refl refl refl;
  a_bot_moves_through_a_full_voxel = shown 3 refl refl refl refl refl refl refl;
  the_result_has_more_than_the_target = shown 2 refl refl refl refl refl refl refl;
  the_least_full_voxel_of_a_way = shown 4 refl refl refl refl refl refl refl;
  a_primary_has_no_secondary = shown 2 refl refl refl refl refl refl refl;
  a_fusion_from_one_side = shown 3 refl refl refl refl refl refl refl;
  two_group_commands_of_one_region = shown 4 refl refl refl refl refl refl refl;
  a_second_leg_is_blocked = shown 2 refl refl refl refl refl refl refl;
  a_first_leg_leaves_space = shown 2 refl refl refl refl refl refl refl;
  a_command_goes_by_bid = shown 4 refl refl refl refl refl refl refl;
  a_child_has_the_next_seeds = shown 4 refl refl refl refl refl refl refl;
  a_secondary_has_no_primary = shown 2 refl refl refl refl refl refl refl;
  a_fill_leaves_space = shown 2 refl refl refl refl refl refl refl;
  a_void_leaves_space = shown 2 refl refl refl refl refl refl refl;
  a_move_leaves_space_on_the_far_side = shown 2 refl refl refl refl refl refl refl;
  a_voided_region_leaves_space = shown 2 refl refl refl refl refl refl refl;
  a_first_leg_is_blocked = shown 3 refl refl refl refl refl refl refl;
  both_voiding_members_are_at_one_corner = shown 3 refl refl refl refl refl refl refl;
  a_near_corner_leaves_space = shown 2 refl refl refl refl refl refl refl;
  a_voided_near_corner_leaves_space = shown 2 refl refl refl refl refl refl refl;
  a_halt_off_the_origin_along_y = shown 3 refl refl refl refl refl refl refl;
  a_halt_off_the_origin_along_z = shown 3 refl refl refl refl refl refl refl;
  the_least_difference = shown 2 refl refl refl refl refl refl refl;
  two_of_four_members_at_one_corner = shown 4 refl refl refl refl refl refl refl;
  a_bot_in_the_middle_of_its_region = shown 3 refl refl refl refl refl refl refl;
  a_fusion_from_the_secondarys_side = shown 3 refl refl refl refl refl refl refl;
  two_primaries_face_each_other = shown 3 refl refl refl refl refl refl refl;
  two_secondaries_face_each_other = shown 3 refl refl refl refl refl refl refl;
  two_lines_are_no_group = shown 4 refl refl refl refl refl refl refl;
  two_voided_lines_are_no_group = shown 4 refl refl refl refl refl refl refl;
  the_greatest_fission = shown 2 refl refl refl refl refl refl refl;
}

pub light_runs : LightRuns
unfolding seed_numbers
light_runs = record {
  one_voxel_is_filled_by_the_light_profile = shown 5 refl refl refl refl refl refl refl;
  a_void_is_forbidden = shown 2 refl refl refl refl refl refl refl;
  a_fission_gives_all_nineteen_seeds = shown 4 refl refl refl refl refl refl refl;
  a_fission_asks_for_twenty_seeds = shown 2 refl refl refl refl refl refl refl;
  a_forbidden_command_is_answered_first = shown 2 refl refl refl refl refl refl refl;
  a_forbidden_command_of_the_greater_bid = shown 3 refl refl refl refl refl refl refl;
  a_voided_region_is_forbidden = shown 2 refl refl refl refl refl refl refl;
  the_light_profile_waits_flips_and_turns = shown 7 refl refl refl refl refl refl refl;
}
