-- Worked examples of runs in which more than one rule is broken, or in which groups interfere.
use Rattle.nano_spec.specs.declared.outcomes.Rule.TheVariants.{TraceEnds, HaltAlone, HaltOrigin, OutOfSpace, Blocked, Seeds, InRegion, Partner, Interference, AfterHalt, Forbidden}
use Rattle.nano_spec.specs.Worked.{Refuses, RefusesLight, hex, empty_3, empty_4, empty_5, one_voxel, a_line}
use Rattle.vox_geom.specs.Point.{coord}

-- runs in which more than one rule is broken
pub record OrderOfRules : Type 0 where
  -- the first of two bots would leave space, and there is no command for the second
  pub the_trace_ends_first : Refuses empty_3 empty_3 (hex "75 00 14 0E") TraceEnds 2 2 (coord 0 0 1)
  -- the lesser bid comes first, although the greater one breaks a lesser rule
  pub the_lesser_bid_comes_first : Refuses empty_3 empty_3 (hex "75 00 77 FF") Partner 2 1 (coord 0 0 0)
  -- the bot is not alone and not at the origin
  pub a_halt_beside_another_bot_off_the_origin : Refuses empty_3 empty_3 (hex "75 00 FE FF") HaltAlone 2 2 (coord 0 0 1)
  -- the lesser rule is reported
  pub a_halt_off_the_origin_under_high_harmonics :
      Refuses empty_3 empty_3 (hex "FD 14 10 FF") HaltOrigin 3 1 (coord 1 0 0)
  -- the first leg is blocked, and the second leaves space
  pub a_blocked_move_out_of_space : Refuses one_voxel one_voxel (hex "14 10 BC 46") OutOfSpace 2 1 (coord 1 0 0)
  -- the Fission would need 40 seeds
  pub a_fission_out_of_space : Refuses empty_3 empty_3 (hex "25 27") OutOfSpace 1 1 (coord 0 0 0)
  -- the bot is in the region
  pub a_region_out_of_space : Refuses empty_3 empty_3 (hex "71 1E 1E 1C") OutOfSpace 1 1 (coord 0 0 0)
  -- there is no partner
  pub a_fusion_out_of_space : Refuses empty_3 empty_3 (hex "27") OutOfSpace 1 1 (coord 0 0 0)
  -- the Fission would need 41 seeds
  pub a_fission_into_a_full_voxel : Refuses one_voxel one_voxel (hex "14 10 75 28") Blocked 2 1 (coord 1 0 1)
  -- the bot is in the region that it fills, which needs two members
  pub a_bot_stands_in_its_region : Refuses empty_3 empty_3 (hex "71 1E 1E 1D") InRegion 1 1 (coord 0 0 0)
  -- the rules of single bots come before interference
  pub a_bot_breaks_a_rule_where_groups_meet : Refuses empty_3 empty_3 (hex "75 00 34 10 B5 00") Seeds 2 2 (coord 0 0 1)
  -- a command follows the Halt, and the target has a voxel that was not filled
  pub a_command_follows_a_wrong_result : Refuses empty_3 one_voxel (hex "FF FE") AfterHalt 1 0 (coord 0 0 0)
  -- there is no partner for the secondary
  pub a_secondary_leaves_space : Refuses empty_3 empty_3 (hex "26") OutOfSpace 1 1 (coord 0 0 0)
  -- the bot is in the region that it voids, which needs two members
  pub a_bot_stands_in_the_region_that_it_voids : Refuses empty_3 empty_3 (hex "70 1E 1E 1D") InRegion 1 1 (coord 0 0 0)
  -- with the light profile Void is not allowed, and the voxel is outside the matrix
  pub a_forbidden_command_out_of_space : RefusesLight empty_3 empty_3 (hex "22") Forbidden 1 1 (coord 0 0 0)

-- runs in which groups interfere
pub record MeetingGroups : Type 0 where
  -- two bots fill one voxel
  pub two_bots_fill_one_voxel : Refuses empty_4 empty_4 (hex "75 00 B3 AB") Interference 2 1 (coord 1 0 0)
  -- two bots void one voxel
  pub two_bots_void_one_voxel : Refuses empty_3 empty_3 (hex "75 00 B2 AA") Interference 2 1 (coord 1 0 0)
  -- two bots would make a bot at one coordinate
  pub two_bots_are_born_at_one_place : Refuses empty_3 empty_3 (hex "75 01 B5 00 AD 00") Interference 2 1 (coord 1 0 0)
  -- two bots would exchange their positions
  pub two_bots_exchange_places : Refuses empty_3 empty_3 (hex "75 00 34 10 34 0E") Interference 2 1 (coord 0 0 0)
  -- a bot moves to one that waits
  pub a_waiting_bot_is_met : Refuses empty_3 empty_3 (hex "75 00 FE 34 0E") Interference 2 1 (coord 0 0 0)
  -- a bot moves to one that flips the harmonics
  pub a_flipping_bot_is_met : Refuses empty_3 empty_3 (hex "75 00 FD 34 0E") Interference 2 1 (coord 0 0 0)
  -- a bot moves to the primary of a fusion
  pub a_primary_is_met : Refuses empty_3 empty_3 (hex "75 00 B5 00 FE 77 66 14 0E") Interference 3 1 (coord 0 0 0)
  -- a bot moves to the secondary of a fusion
  pub a_secondary_is_met : Refuses empty_3 empty_3 (hex "75 00 B5 00 FE 77 66 7C 46") Interference 3 1 (coord 0 0 1)
  -- the second leg of a move ends at the coordinate to which another bot moves
  pub a_second_leg_meets_a_bot : Refuses empty_3 empty_3 (hex "75 00 DC 66 14 10") Interference 2 1 (coord 1 0 1)
  -- a bot moves to the position of a member of a group command
  pub a_member_is_met_at_its_position :
      Refuses empty_5 a_line (hex "75 01 85 00 34 11 B9 1E 1E 20 B1 1E 1E 1C 24 0E") Interference 3 1 (coord 0 0 0)
  -- a bot voids a voxel in the region of a group
  pub a_region_is_met :
      Refuses a_line empty_5 (hex "75 01 B5 00 34 11 B8 1E 1E 20 B0 1E 1E 1C 72") Interference 3 1 (coord 1 0 1)
  -- the bots 1 and 13 meet, and so do 2 and 3: the pair with the least leader is reported
  pub the_least_leader_is_answered :
      Refuses empty_3 empty_3 (hex "75 0A 85 00 B5 00 FE FE 14 0E 24 0E") Interference 3 1 (coord 0 0 0)
  -- bot 1 meets bot 2 at (0,0,1) and bot 3 at (0,0,0): the pair with the lesser other leader is reported
  pub a_leader_meets_two_groups :
      Refuses empty_3 empty_3 (hex "75 00 B5 00 FE 34 11 FE 14 0E") Interference 3 1 (coord 0 0 1)
  -- the first leg of a move meets a bot that waits, and the second does not
  pub a_first_leg_meets_a_bot : Refuses empty_3 empty_3 (hex "75 00 7C 67 FE") Interference 2 1 (coord 0 0 1)
  -- a bot moves to one that fills a voxel
  pub a_filling_bot_is_met : Refuses empty_3 empty_3 (hex "75 00 B3 34 0E") Interference 2 1 (coord 0 0 0)
  -- a bot moves to one that voids a voxel
  pub a_voiding_bot_is_met : Refuses empty_3 empty_3 (hex "75 00 B2 34 0E") Interference 2 1 (coord 0 0 0)
  -- a bot moves to one that makes a bot
  pub a_parent_is_met : Refuses empty_3 empty_3 (hex "75 01 B5 00 34 0E") Interference 2 1 (coord 0 0 0)
  -- a bot moves into the region that a group fills
  pub a_filled_region_is_met :
      Refuses empty_5 a_line (hex "75 01 B5 00 34 11 B9 1E 1E 20 B1 1E 1E 1C 34 10") Interference 3 1 (coord 1 0 1)
