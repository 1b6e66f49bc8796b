-- Worked examples of runs: from the bytes of a source model, a target model and a trace to the verdict.
use Rattle.std.specs.Prelude.{pos}
use Rattle.nano_spec.specs.declared.outcomes.Rule.TheVariants.{TraceEnds, HaltAlone, HaltOrigin, HaltLow, OutOfSpace, Blocked, Seeds, InRegion, Partner, GroupShape, Ungrounded, AfterHalt, WrongResult, Forbidden}
use Rattle.nano_spec.specs.Worked.{Accepts, Refuses, AcceptsLight, RefusesLight, hex, empty_1, empty_3, empty_4, empty_5, one_voxel, two_voxels, a_line, ring_on_a_post, ring_on_two_posts, ring_on_the_other_post}
use Rattle.vox_geom.specs.Point.{coord}

-- traces that are accepted, with their energy and their number of steps
pub record AcceptedRuns : Type 0 where
  -- the Halt step pays 81 + 20
  pub a_halt_pays_its_upkeep : Accepts empty_3 empty_3 (hex "FF") (pos 101) 1
  -- the steps cost 103, 113, 103 and 101
  pub one_voxel_is_filled : Accepts empty_3 one_voxel (hex "14 10 73 14 0E FF") (pos 420) 4
  -- the steps cost 212, 1942, 1942, 1952, 1952, 1940, 214, 214 and 212
  pub a_voxel_is_held_by_high_harmonics :
      Accepts empty_4 two_voxels (hex "FD 14 10 24 10 73 5B FD 24 0E 14 0E FF") (pos 10580) 9
  -- the Fission uses all 39 seeds, and the two bots fuse again: the steps cost 125, 97 and 101
  pub a_fission_gives_all_seeds : Accepts empty_3 empty_3 (hex "75 26 77 66 FF") (pos 323) 3
  -- two Flips in one step: the steps cost 125, 121, 97 and 101
  pub two_flips_cancel : Accepts empty_3 empty_3 (hex "75 00 FD FD 77 66 FF") (pos 444) 4
  -- a group command of two bots: the steps cost 419, 419, 451, 419, 391 and 395
  pub two_bots_fill_a_line :
      Accepts empty_5 a_line (hex "75 00 FE 34 11 B9 1E 1E 20 B1 1E 1E 1C FE 34 0D 77 66 FF") (pos 2494) 6
  -- the third step costs 379
  pub two_bots_void_a_line :
      Accepts a_line empty_5 (hex "75 00 FE 34 11 B8 1E 1E 20 B0 1E 1E 1C FE 34 0D 77 66 FF") (pos 2422) 6
  -- filling a full voxel costs 6
  pub a_full_voxel_is_filled : Accepts one_voxel one_voxel (hex "14 10 73 14 0E FF") (pos 414) 4
  -- voiding a void voxel costs 3
  pub a_void_voxel_is_voided : Accepts empty_3 empty_3 (hex "BA FF") (pos 205) 2
  -- the ring has a second post
  pub a_ring_stands_on_its_other_post : Accepts ring_on_two_posts ring_on_the_other_post (hex "BA FF") (pos 778) 2
  -- a matrix of one voxel
  pub the_least_resolution : Accepts empty_1 empty_1 (hex "FF") (pos 23) 1
  -- moves of two legs: the steps cost 109, 109 and 101
  pub a_move_round_a_corner_and_back : Accepts empty_3 empty_3 (hex "9C 66 6C 44 FF") (pos 319) 3
  -- after the fusion the bot has all 39 seeds again: the steps cost 125, 97, 125, 97 and 101
  pub a_fusion_gives_all_seeds_back : Accepts empty_3 empty_3 (hex "75 00 77 66 75 26 77 66 FF") (pos 545) 5
  -- the bot with the lesser bid is the secondary, and the other goes on: the steps cost 125, 97, 103 and 101
  pub the_lesser_bid_is_the_secondary : Accepts empty_3 empty_3 (hex "75 00 76 67 34 0E FF") (pos 426) 4
  -- a group command fills full voxels for 6 each: the third step costs 433
  pub two_bots_fill_a_full_line :
      Accepts a_line a_line (hex "75 00 FE 34 11 B9 1E 1E 20 B1 1E 1E 1C FE 34 0D 77 66 FF") (pos 2476) 6
  -- a group command voids void voxels for 3 each: the third step costs 424
  pub two_bots_void_a_void_line :
      Accepts empty_5 empty_5 (hex "75 00 FE 34 11 B8 1E 1E 20 B0 1E 1E 1C FE 34 0D 77 66 FF") (pos 2467) 6
  -- legs of 1 and 2, and back by two moves: the steps cost 111, 105, 103 and 101
  pub legs_of_different_lengths : Accepts empty_3 empty_3 (hex "DC 76 34 0D 14 0E FF") (pos 420) 4
  -- the secondary has the seed 3, and after the fusion the bot has all 39 seeds again
  pub a_fusion_gives_the_secondarys_seeds : Accepts empty_3 empty_3 (hex "75 01 77 66 75 26 77 66 FF") (pos 545) 5

-- traces that are refused: the rule, the step, the bot and the coordinate
pub record RefusedRuns : Type 0 where
  -- there is no command for the first bot
  pub an_empty_trace_ends_before_the_first_step : Refuses empty_3 empty_3 (hex "") TraceEnds 1 1 (coord 0 0 0)
  -- there is no command for the second step
  pub a_trace_ends_after_a_wait : Refuses empty_3 empty_3 (hex "FE") TraceEnds 2 1 (coord 0 0 0)
  -- under Low a voxel is filled that has no full neighbor
  pub a_filled_voxel_floats : Refuses empty_4 empty_4 (hex "14 10 24 10 73 FF") Ungrounded 3 0 (coord 1 1 1)
  -- the same without the voxel below
  pub a_voxel_floats_once_harmonics_are_low :
      Refuses empty_4 two_voxels (hex "FD 14 10 24 10 73 FD 24 0E 14 0E FF") Ungrounded 5 0 (coord 1 1 1)
  -- the Fission would need 40 seeds
  pub a_fission_asks_for_too_many_seeds : Refuses empty_3 empty_3 (hex "75 27") Seeds 1 1 (coord 0 0 0)
  -- a line needs two members
  pub one_bot_alone_fills_a_line : Refuses empty_5 a_line (hex "B9 1E 1E 20") GroupShape 1 1 (coord 0 0 0)
  -- the members have to be at different corners
  pub both_members_are_at_one_corner :
      Refuses empty_5 a_line (hex "75 00 B9 1E 1E 20 B1 1E 1E 20") GroupShape 2 1 (coord 0 0 0)
  -- the voxels of a ring do not ground one another once its post is gone
  pub a_ring_does_not_ground_itself : Refuses ring_on_a_post empty_5 (hex "BA FF") Ungrounded 1 0 (coord 1 1 1)
  -- another bot is active
  pub a_second_bot_is_active_at_a_halt : Refuses empty_3 empty_3 (hex "75 00 FF FF") HaltAlone 2 1 (coord 0 0 0)
  -- the harmonics are High
  pub a_halt_under_high_harmonics : Refuses empty_3 empty_3 (hex "FD FF") HaltLow 2 1 (coord 0 0 0)
  -- the bot is not at the origin
  pub a_halt_off_the_origin : Refuses empty_3 empty_3 (hex "14 10 FF") HaltOrigin 2 1 (coord 1 0 0)
  -- a command is left after the Halt
  pub a_command_follows_the_halt : Refuses empty_3 empty_3 (hex "FF FE") AfterHalt 1 0 (coord 0 0 0)
  -- the target has a voxel that was not filled
  pub the_result_is_not_the_target : Refuses empty_3 one_voxel (hex "FF") WrongResult 1 0 (coord 1 0 1)
  -- both are refused in the last step, here the second
  pub a_command_follows_a_later_halt : Refuses empty_3 empty_3 (hex "FE FF FE") AfterHalt 2 0 (coord 0 0 0)
  pub a_later_result_is_not_the_target : Refuses empty_3 one_voxel (hex "FE FF") WrongResult 2 0 (coord 1 0 1)
  -- the bot would leave the matrix
  pub a_bot_leaves_space : Refuses empty_3 empty_3 (hex "14 0E") OutOfSpace 1 1 (coord 0 0 0)
  -- the bot would move through a full voxel
  pub a_bot_moves_through_a_full_voxel : Refuses one_voxel one_voxel (hex "14 10 34 11") Blocked 2 1 (coord 1 0 1)
  -- the source has a voxel that the target has not
  pub the_result_has_more_than_the_target : Refuses one_voxel empty_3 (hex "FF") WrongResult 1 0 (coord 1 0 1)
  -- the bot meets (1,0,3) first, and the least full voxel of its path is reported
  pub the_least_full_voxel_of_a_way : Refuses a_line a_line (hex "34 13 14 10 34 0C") Blocked 3 1 (coord 1 0 1)
  -- no bot fuses with the primary
  pub a_primary_has_no_secondary : Refuses empty_3 empty_3 (hex "77") Partner 1 1 (coord 0 0 0)
  -- the secondary's difference does not lead to the primary
  pub a_fusion_from_one_side : Refuses empty_3 empty_3 (hex "75 00 77 76") Partner 2 1 (coord 0 0 0)
  -- GFill and GVoid of one region are no group
  pub two_group_commands_of_one_region :
      Refuses empty_5 a_line (hex "75 00 FE 34 11 B9 1E 1E 20 B0 1E 1E 1C") GroupShape 3 1 (coord 0 0 0)
  -- the second leg of the move meets a full voxel
  pub a_second_leg_is_blocked : Refuses one_voxel one_voxel (hex "DC 66") Blocked 1 1 (coord 1 0 1)
  -- the first leg of the move leaves the matrix, although the second comes back
  pub a_first_leg_leaves_space : Refuses empty_3 empty_3 (hex "5C 64") OutOfSpace 1 1 (coord 0 0 0)
  -- of four bots the fourth command goes to the greatest bid, 13, which is not the youngest
  pub a_command_goes_by_bid : Refuses empty_3 empty_3 (hex "75 0A 85 00 B5 00 FE FE FE FF") HaltAlone 3 13 (coord 0 1 0)
  -- bot 2 was born with the seeds 3 to 12, so its first child is bot 3
  pub a_child_has_the_next_seeds :
      Refuses empty_3 empty_3 (hex "75 0A 85 00 B5 00 FE FE FF FE") HaltAlone 3 3 (coord 1 0 1)
  -- no bot fuses with the secondary
  pub a_secondary_has_no_primary : Refuses empty_3 empty_3 (hex "76") Partner 1 1 (coord 0 0 0)
  -- the voxel to be filled is outside the matrix
  pub a_fill_leaves_space : Refuses empty_3 empty_3 (hex "23 FF") OutOfSpace 1 1 (coord 0 0 0)
  -- the voxel to be voided is outside the matrix
  pub a_void_leaves_space : Refuses empty_3 empty_3 (hex "22 FF") OutOfSpace 1 1 (coord 0 0 0)
  -- the bot would leave the matrix on the side away from the origin
  pub a_move_leaves_space_on_the_far_side : Refuses empty_3 empty_3 (hex "14 12") OutOfSpace 1 1 (coord 0 0 0)
  -- the far corner of the region to be voided is outside the matrix
  pub a_voided_region_leaves_space : Refuses empty_3 empty_3 (hex "70 1E 1E 20") OutOfSpace 1 1 (coord 0 0 0)
  -- the first leg of the move meets a full voxel, and the second does not
  pub a_first_leg_is_blocked : Refuses one_voxel one_voxel (hex "14 10 7C 67") Blocked 2 1 (coord 1 0 1)
  -- the members that void a region have to be at different corners too
  pub both_voiding_members_are_at_one_corner :
      Refuses a_line empty_5 (hex "75 00 B8 1E 1E 20 B0 1E 1E 20") GroupShape 2 1 (coord 0 0 0)
  -- the near corner of a region is outside the matrix, and the far corner is not
  pub a_near_corner_leaves_space : Refuses empty_3 empty_3 (hex "29 1F 1E 1E") OutOfSpace 1 1 (coord 0 0 0)
  -- the same for a region to be voided
  pub a_voided_near_corner_leaves_space : Refuses empty_3 empty_3 (hex "28 1F 1E 1E") OutOfSpace 1 1 (coord 0 0 0)
  -- the bot is above the origin
  pub a_halt_off_the_origin_along_y : Refuses empty_3 empty_3 (hex "24 10 FF") HaltOrigin 2 1 (coord 0 1 0)
  -- the bot is next to the origin
  pub a_halt_off_the_origin_along_z : Refuses empty_3 empty_3 (hex "34 10 FF") HaltOrigin 2 1 (coord 0 0 1)
  -- the target has two voxels that were not filled, and the least is reported
  pub the_least_difference : Refuses empty_4 two_voxels (hex "FF") WrongResult 1 0 (coord 1 0 1)
  -- of four members the first and the last are at one corner
  pub two_of_four_members_at_one_corner : Refuses empty_3 empty_3
      (hex "75 01 B5 00 B5 00 81 1F 1E 1F 81 1F 1E 1D 81 1D 1E 1D 39 1F 1E 1F") GroupShape 3 1 (coord 0 0 0)
  -- the bot is in its region, at none of its corners
  pub a_bot_in_the_middle_of_its_region : Refuses empty_4 empty_4 (hex "34 10 61 1E 1E 21") InRegion 2 1 (coord 0 0 1)
  -- the primary's difference does not lead to the secondary
  pub a_fusion_from_the_secondarys_side : Refuses empty_3 empty_3 (hex "75 00 87 66") Partner 2 1 (coord 0 0 0)
  -- two primaries are no partners
  pub two_primaries_face_each_other : Refuses empty_3 empty_3 (hex "75 00 77 67") Partner 2 1 (coord 0 0 0)
  -- two secondaries are no partners
  pub two_secondaries_face_each_other : Refuses empty_3 empty_3 (hex "75 00 76 66") Partner 2 1 (coord 0 0 0)
  -- two bots fill two lines, of which one is a part of the other
  pub two_lines_are_no_group :
      Refuses empty_5 a_line (hex "75 00 FE 34 11 B9 1E 1E 20 B1 1E 1E 1D") GroupShape 3 1 (coord 0 0 0)
  -- two bots void two such lines
  pub two_voided_lines_are_no_group :
      Refuses a_line empty_5 (hex "75 00 FE 34 11 B8 1E 1E 20 B0 1E 1E 1D") GroupShape 3 1 (coord 0 0 0)
  -- the greatest number of a Fission is a command, for which there are too few seeds
  pub the_greatest_fission : Refuses empty_3 empty_3 (hex "75 FF") Seeds 1 1 (coord 0 0 0)

-- traces with the light profile
pub record LightRuns : Type 0 where
  -- a voxel is filled as with the full profile
  pub one_voxel_is_filled_by_the_light_profile : AcceptsLight empty_3 one_voxel (hex "14 10 73 14 0E FF") (pos 420) 4
  -- Void is not allowed
  pub a_void_is_forbidden :
      RefusesLight ring_on_two_posts ring_on_the_other_post (hex "BA FF") Forbidden 1 1 (coord 0 0 0)
  -- the Fission uses all 19 seeds
  pub a_fission_gives_all_nineteen_seeds : AcceptsLight empty_3 empty_3 (hex "75 12 77 66 FF") (pos 323) 3
  -- the Fission would need 20 seeds
  pub a_fission_asks_for_twenty_seeds : RefusesLight empty_3 empty_3 (hex "75 13") Seeds 1 1 (coord 0 0 0)
  -- the command breaks another rule too, which comes later
  pub a_forbidden_command_is_answered_first :
      RefusesLight empty_3 empty_3 (hex "71 1E 1E 1D") Forbidden 1 1 (coord 0 0 0)
  -- the lesser bid comes first, although the other's command is forbidden
  pub a_forbidden_command_of_the_greater_bid :
      RefusesLight empty_3 empty_3 (hex "75 00 FF BA") HaltAlone 2 1 (coord 0 0 0)
  -- GVoid is not allowed
  pub a_voided_region_is_forbidden : RefusesLight empty_3 empty_3 (hex "70 1E 1E 1F") Forbidden 1 1 (coord 0 0 0)
  -- the other commands of the light profile: the steps cost 101, 101, 830, 109, 109 and 101
  pub the_light_profile_waits_flips_and_turns :
      AcceptsLight empty_3 empty_3 (hex "FE FD FD 9C 66 6C 44 FF") (pos 1351) 6
