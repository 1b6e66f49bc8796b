-- Worked examples of the forge, of steps whose groups act one after another, of work, of paths, of states, and of
-- names.
use Rattle.std.specs.Prelude.{◌≡◌, ℕ, ◌^◌, true, false, pos, List, [], ◌∷◌, ◌++◌, map, filter, flat_map, take, codes, Some, None}
use Rattle.std.specs.List.{list_all}
use Rattle.vox_geom.specs.declared.coordinate.Coord.{Coord}
use Rattle.nano_spec.specs.declared.commands.Command.{Command}
use Rattle.nano_spec.specs.declared.commands.Command.TheVariants.{Halt, Wait, Flip, SMove, LMove, FusionP, FusionS, Fission, Fill, Void, GFill, GVoid}
use Rattle.nano_spec.specs.declared.outcomes.Rule.{Rule}
use Rattle.nano_spec.specs.declared.outcomes.Rule.TheVariants.{TraceEnds, HaltAlone, HaltOrigin, HaltLow, OutOfSpace, Blocked, Seeds, InRegion, Partner, GroupShape, Interference, Ungrounded, AfterHalt, WrongResult, Forbidden}
use Rattle.nano_spec.specs.declared.system.Bot.{Bot}
use Rattle.nano_spec.specs.declared.system.Profile.{Profile}
use Rattle.nano_spec.specs.declared.system.Harmonics.{Harmonics}
use Rattle.nano_spec.specs.declared.system.Harmonics.TheVariants.{Low, High}
use Rattle.nano_spec.specs.Forge.{forged, mixed}
use Rattle.nano_spec.specs.Grounded.{is_path_from}
use Rattle.nano_spec.specs.Level.{Level}
use Rattle.nano_spec.specs.Matrix.{Matrix, empty, is_full}
use Rattle.nano_spec.specs.Model.{written}
use Rattle.nano_spec.specs.Profile.{full_profile, light_profile, index_of, is_allowed}
use Rattle.nano_spec.specs.Rule.{rule_number, name_of}
use Rattle.nano_spec.specs.Rules.{repeats}
use Rattle.nano_spec.specs.Serial.{serial}
use Rattle.nano_spec.specs.State.{IsReady, IsWellFormed, State, seed_list, seed_set}
use Rattle.nano_spec.specs.Step.{after}
use Rattle.nano_spec.specs.Work.{Work}
use Rattle.nano_spec.specs.Worked.{diff, hex, voxels_at, below_zero}
use Rattle.nano_spec.specs.WorkedBytes.{ring}
use Rattle.nano_spec.specs.WorkedStep.{bot}
use Rattle.vox_geom.specs.Point.{coord, point}
use Rattle.vox_geom.specs.Space.{numbers_below}

-- forged models and their bytes
pub record WorkedForge : Type 0 where
  -- the mixed numbers of the columns for the number 0 at resolutions 3 and 4
  pub mixed_numbers : (mixed 0 1 1 ≡ 189) × (mixed 0 1 2 ≡ 307) × (mixed 0 2 1 ≡ 275) × (mixed 0 2 2 ≡ 408)
  -- a mixed number for the number 1
  pub another_mixed_number : mixed 1 1 1 ≡ 190
  -- one column of height 2
  pub one_column : forged 0 3 ≡ voxels_at 3 (coord 1 0 1 ∷ coord 1 1 1 ∷ [])
  -- its bytes
  pub one_column_written : written (forged 0 3) ≡ hex "03 00 24 00 00"
  -- no column
  pub no_column : forged 1 3 ≡ empty 3
  -- two columns of height 1, which the line of x = 2 and the line of z = 1 join
  pub two_columns : forged 0 4 ≡ voxels_at 4 (coord 1 0 1 ∷ coord 2 0 1 ∷ coord 2 0 2 ∷ [])
  -- its bytes
  pub two_columns_written : written (forged 0 4) ≡ hex "04 00 00 02 00 06 00 00 00"
  -- there is no room for a column
  pub no_room : forged 0 2 ≡ empty 2
  -- there is room, and no column either
  pub no_column_of_four : forged 719 4 ≡ empty 4
  -- mixed numbers are below 1024
  pub a_wrapped_number : mixed 1000 1 1 ≡ 165
  -- 1024 gives the same as 0
  pub a_number_of_1024 : forged 1024 3 ≡ forged 0 3
  -- three columns, of which one is 3 high: lines on its top layer
  pub lines_on_top : forged 1 5 ≡ voxels_at 5 (coord 1 0 3 ∷ coord 1 1 3 ∷ coord 1 2 3 ∷ coord 2 0 1 ∷ coord 2 2 1
      ∷ coord 2 2 2 ∷ coord 2 2 3 ∷ coord 3 0 1 ∷ coord 3 2 3 ∷ [])
  -- two columns are 4 high: the line z = 3 is that of the first of them, at x = 2
  pub the_first_of_two_tallest : forged 2 5 ≡ voxels_at 5 (coord 1 0 2 ∷ coord 1 1 2 ∷ coord 1 3 3 ∷ coord 2 0 3
      ∷ coord 2 1 3 ∷ coord 2 2 3 ∷ coord 2 3 1 ∷ coord 2 3 2 ∷ coord 2 3 3 ∷ coord 3 0 2 ∷ coord 3 1 2 ∷ coord 3 2 2
      ∷ coord 3 3 2 ∷ coord 3 3 3 ∷ [])

-- two bots next to each other, at resolution 5
abbrev pub with_two : State
with_two =
    record
    { matrix = empty 5; harmonics = Low; bots = bot 1 0 0 0 ∷ bot 2 0 0 1 ∷ []; energy = pos 0; profile = full_profile }

-- the one waits, and the other moves away
abbrev pub one_moves : List Command
one_moves = Wait ∷ SMove (diff (pos 0) (pos 0) (pos 2)) ∷ []

-- the one fills the voxel to which the other moves
abbrev pub one_fills : List Command
one_fills = Fill (diff (pos 1) (pos 0) (pos 1)) ∷ SMove (diff (pos 1) (pos 0) (pos 0)) ∷ []

-- both fill a line of two voxels
abbrev pub both_fill : List Command
both_fill = GFill (diff (pos 1) (pos 0) (pos 0)) (diff (pos 0) (pos 0) (pos 1))
    ∷ GFill (diff (pos 1) (pos 0) (pos 0)) (diff (pos 0) (pos 0) (below_zero 1)) ∷ []

-- groups that act one after another
pub record WorkedOrders : Type 0 where
  -- the step costs 375 for the space, 40 for the bots, and 4 for the move
  pub in_rising_order : serial with_two one_moves (1 ∷ 2 ∷ []) ≡ Some (record {
    matrix = empty 5;
    harmonics = Low;
    bots = bot 1 0 0 0 ∷ bot 2 0 0 3 ∷ [];
    energy = pos 419;
    profile = full_profile;
  })
  -- the other order gives the same state
  pub in_falling_order : serial with_two one_moves (2 ∷ 1 ∷ []) ≡ Some (after with_two one_moves)
  -- two bots are one group, which acts once
  pub a_group_acts_once : serial with_two both_fill (1 ∷ []) ≡ Some (after with_two both_fill)
  -- the second group meets the voxel that the first filled
  pub a_way_is_filled : serial with_two one_fills (1 ∷ 2 ∷ []) ≡ None
  -- of three corners the last two are one
  pub a_later_corner_twice : repeats (point (coord 0 0 0) ∷ point (coord 1 0 0) ∷ point (coord 1 0 0) ∷ []) ≡ true
  pub three_corners : repeats (point (coord 0 0 0) ∷ point (coord 1 0 0) ∷ point (coord 0 0 1) ∷ []) ≡ false

-- the work of traces
pub record WorkedWork : Type 0 where
  -- no command for the first bot
  pub no_work : Work (empty 3) [] full_profile 0
  -- a Fission is refused because it has too few seeds: its two volatile coordinates
  pub work_of_a_refused_fission : Work (empty 3) (Fission (diff (pos 0) (pos 0) (pos 1)) 39 ∷ []) full_profile 2
  -- a ring on two posts, of which one is voided: two volatile coordinates, one voxel that changes,
  -- and four whose levels change; then the Halt's one volatile coordinate
  pub work_of_a_ring :
      Work (voxels_at 5 (coord 1 0 1 ∷ ring)) (Void (diff (pos 1) (pos 0) (pos 1)) ∷ Halt ∷ []) full_profile 8
  -- a command that leaves space has no volatile coordinate
  pub work_of_a_command_out_of_space : Work (empty 3) (SMove (diff (below_zero 1) (pos 0) (pos 0)) ∷ []) full_profile 0
  -- two bots would fill a line of two voxels from one corner: two volatile coordinates for the Fission, and then once
  -- four for the whole group
  pub work_of_a_refused_group : Work (empty 3)
      (Fission (diff (pos 0) (pos 0) (pos 1)) 0 ∷ GFill (diff (pos 1) (pos 0) (pos 1)) (diff (pos 0) (pos 0) (pos 1))
      ∷ GFill (diff (pos 1) (pos 0) (pos 0)) (diff (pos 0) (pos 0) (pos 1)) ∷ []) full_profile 6
  -- two voxels above the floor on a post, which one bot voids while another bot fills a post below the other of them:
  -- two volatile coordinates for the Fission, and then four, two voxels that change, three whose levels change when the
  -- post is voided, and three when the other is filled
  pub work_of_another_post : Work (voxels_at 4 (coord 1 0 1 ∷ coord 1 1 1 ∷ coord 1 1 2 ∷ []))
      (Fission (diff (pos 0) (pos 0) (pos 1)) 0 ∷ Void (diff (pos 1) (pos 0) (pos 1))
      ∷ Fill (diff (pos 1) (pos 0) (pos 1)) ∷ []) full_profile 14
  -- a post is voided and the voxel above it floats, so that the step is refused: its work is two volatile coordinates,
  -- one voxel that changes, and two whose levels change
  pub work_of_a_floating_voxel :
      Work (voxels_at 3 (coord 1 0 1 ∷ coord 1 1 1 ∷ [])) (Void (diff (pos 1) (pos 0) (pos 1)) ∷ []) full_profile 5
  -- a Fission, and a Wait for the first of two bots: the trace ends within the step, which has no work
  pub work_where_the_trace_ends :
      Work (empty 3) (Fission (diff (pos 0) (pos 0) (pos 1)) 0 ∷ Wait ∷ []) full_profile 2
  -- a full voxel is filled, and a void one is voided, so that no voxel changes: two volatile coordinates each, and the
  -- Halt's one
  pub work_without_a_change : Work (voxels_at 3 (coord 1 0 1 ∷ []))
      (Fill (diff (pos 1) (pos 0) (pos 1)) ∷ Void (diff (pos 1) (pos 1) (pos 0)) ∷ Halt ∷ []) full_profile 5
  -- two bots would exchange their positions: two volatile coordinates for the Fission, and then the same two for each bot
  pub work_of_groups_that_meet : Work (empty 3)
      (Fission (diff (pos 0) (pos 0) (pos 1)) 0 ∷ SMove (diff (pos 0) (pos 0) (pos 1))
      ∷ SMove (diff (pos 0) (pos 0) (below_zero 1)) ∷ []) full_profile 6

-- a post of two voxels, an arm, and a voxel that hangs from it
abbrev pub hanging : Matrix
hanging = voxels_at 5 (coord 1 0 1 ∷ coord 1 1 1 ∷ coord 2 1 1 ∷ coord 2 0 1 ∷ coord 1 0 3 ∷ [])

-- at resolution 3 a column, and a voxel at the other side of the matrix
abbrev pub beside_a_column : Matrix
beside_a_column = voxels_at 3 (coord 1 0 0 ∷ coord 1 1 0 ∷ coord 1 2 0 ∷ coord 1 1 2 ∷ [])

-- paths to the floor, and lists of coordinates that are none
pub record WorkedPaths : Type 0 where
  pub on_the_floor : is_path_from hanging (coord 1 0 1) (coord 1 0 1 ∷ []) ≡ true
  pub along_the_arm : is_path_from hanging (coord 2 1 1) (coord 2 1 1 ∷ coord 1 1 1 ∷ coord 1 0 1 ∷ []) ≡ true
  -- a path may rise
  pub up_and_down :
      is_path_from hanging (coord 2 0 1) (coord 2 0 1 ∷ coord 2 1 1 ∷ coord 1 1 1 ∷ coord 1 0 1 ∷ []) ≡ true
  pub no_coordinate : is_path_from hanging (coord 1 0 1) [] ≡ false
  -- it begins at the coordinate
  pub from_elsewhere : is_path_from hanging (coord 1 1 1) (coord 1 0 1 ∷ []) ≡ false
  -- it ends on the floor
  pub above_the_floor : is_path_from hanging (coord 2 1 1) (coord 2 1 1 ∷ coord 1 1 1 ∷ []) ≡ false
  -- all its voxels are full: the first, one between, and the last alone
  pub from_a_void_voxel : is_path_from hanging (coord 1 2 1) (coord 1 2 1 ∷ coord 1 1 1 ∷ coord 1 0 1 ∷ []) ≡ false
  pub through_a_void_voxel :
      is_path_from hanging (coord 2 1 1) (coord 2 1 1 ∷ coord 3 1 1 ∷ coord 2 1 1 ∷ coord 1 1 1 ∷ coord 1 0 1 ∷ [])
      ≡ false
  pub to_a_void_voxel :
      is_path_from (voxels_at 3 (coord 1 1 1 ∷ [])) (coord 1 1 1) (coord 1 1 1 ∷ coord 1 0 1 ∷ []) ≡ false
  -- no coordinate outside the matrix is full, and a path stays within
  pub full_within_the_matrix :
      (is_full beside_a_column (coord 1 1 2) ≡ true) × (is_full beside_a_column (coord 1 1 3) ≡ false)
  pub outside_the_matrix :
      is_path_from beside_a_column (coord 1 1 2) (coord 1 1 2 ∷ coord 1 1 3 ∷ coord 1 0 3 ∷ []) ≡ false
  -- a coordinate without a voxel is not full
  pub full_without_voxels : is_full (record { resolution = 3; voxels = [] }) (coord 1 1 1) ≡ false
  -- each is adjacent to the next
  pub over_an_edge : is_path_from hanging (coord 2 1 1) (coord 2 1 1 ∷ coord 1 0 1 ∷ []) ≡ false
  pub over_a_gap : is_path_from hanging (coord 1 0 1) (coord 1 0 1 ∷ coord 1 0 3 ∷ []) ≡ false
  -- on the floor the level is 0, by the path of the voxel itself
  pub level_on_the_floor : Level hanging (coord 1 0 1) (Some 0)

-- a bot with seeds
abbrev pub seeded : ℕ → Coord → List ℕ → Bot
seeded bid at seeds = record { bid = bid; pos = at; seeds = seed_set seeds }

-- a state with a matrix and bots
abbrev pub with_bots : Harmonics → Matrix → List Bot → State
with_bots harmonics m bots =
    record { matrix = m; harmonics = harmonics; bots = bots; energy = pos 0; profile = full_profile }

-- a voxel floats, which High allows
abbrev pub FloatingUnderHigh : Type 0
FloatingUnderHigh = IsWellFormed (with_bots High (voxels_at 3 (coord 1 1 1 ∷ [])) (bot 1 0 0 0 ∷ []))

-- states that are not well-formed or not ready, each for one reason
pub record WorkedStates : Type 0 where
  -- a voxel floats, which Low does not allow
  pub floating_under_low : IsWellFormed (with_bots Low (voxels_at 3 (coord 1 1 1 ∷ [])) (bot 1 0 0 0 ∷ [])) → ⊥
  -- two bots have the bid 2
  pub one_bid_twice : IsWellFormed (with_bots Low (empty 3) (bot 2 0 0 0 ∷ bot 2 0 0 1 ∷ [])) → ⊥
  -- two bots are at one coordinate
  pub one_place_twice : IsWellFormed (with_bots Low (empty 3) (bot 1 0 0 1 ∷ bot 2 0 0 1 ∷ [])) → ⊥
  -- a bot is in a full voxel
  pub a_bot_in_a_voxel : IsWellFormed (with_bots Low (voxels_at 3 (coord 1 0 1 ∷ [])) (bot 1 1 0 1 ∷ [])) → ⊥
  -- both bots have the seed 5
  pub one_seed_twice : IsWellFormed
      (with_bots Low (empty 3) (seeded 1 (coord 0 0 0) (4 ∷ 5 ∷ []) ∷ seeded 2 (coord 0 0 1) (5 ∷ []) ∷ [])) → ⊥
  -- the bid of an active bot is a seed
  pub a_seed_is_active : IsWellFormed (with_bots Low (empty 3) (seeded 1 (coord 0 0 0) (2 ∷ 3 ∷ []) ∷ bot 2 0 0 1 ∷ []))
      → ⊥
  -- the matrix has no voxels
  pub no_voxels : IsReady (with_bots Low (record { resolution = 3; voxels = [] }) (bot 1 0 0 0 ∷ [])) → ⊥
  -- a bot is outside the matrix
  pub a_bot_outside : IsReady (with_bots Low (empty 3) (bot 1 0 0 3 ∷ [])) → ⊥
  -- the bots are not in the order of their bids
  pub bids_that_fall : IsReady (with_bots Low (empty 3) (bot 2 0 0 0 ∷ bot 1 0 0 1 ∷ [])) → ⊥
  -- two bots are at one coordinate, both have a seed, and the bid of an active bot is a seed
  pub one_ready_place_twice : IsReady (with_bots Low (empty 3) (bot 1 0 0 1 ∷ bot 2 0 0 1 ∷ [])) → ⊥
  pub one_ready_seed_twice :
      IsReady (with_bots Low (empty 3) (seeded 1 (coord 0 0 0) (4 ∷ 5 ∷ []) ∷ seeded 2 (coord 0 0 1) (5 ∷ []) ∷ [])) → ⊥
  pub a_ready_seed_is_active :
      IsReady (with_bots Low (empty 3) (seeded 1 (coord 0 0 0) (2 ∷ 3 ∷ []) ∷ bot 2 0 0 1 ∷ [])) → ⊥

-- all rules, in the order of their numbers
abbrev pub all_rules : List Rule
all_rules =
    TraceEnds ∷ HaltAlone ∷ HaltOrigin ∷ HaltLow ∷ OutOfSpace ∷ Blocked ∷ Seeds ∷ InRegion ∷ Partner ∷ GroupShape
    ∷ Interference ∷ Ungrounded ∷ AfterHalt ∷ WrongResult ∷ Forbidden ∷ []

-- a command of each word, in the order of the words
abbrev pub all_commands : List Command
all_commands =
    Halt ∷ Wait ∷ Flip ∷ SMove (diff (pos 1) (pos 0) (pos 0))
    ∷ LMove (diff (pos 1) (pos 0) (pos 0)) (diff (pos 0) (pos 1) (pos 0)) ∷ FusionP (diff (pos 1) (pos 0) (pos 0))
    ∷ FusionS (diff (pos 1) (pos 0) (pos 0)) ∷ Fission (diff (pos 1) (pos 0) (pos 0)) 0
    ∷ Fill (diff (pos 1) (pos 0) (pos 0)) ∷ Void (diff (pos 1) (pos 0) (pos 0))
    ∷ GFill (diff (pos 1) (pos 0) (pos 0)) (diff (pos 1) (pos 0) (pos 0))
    ∷ GVoid (diff (pos 1) (pos 0) (pos 0)) (diff (pos 1) (pos 0) (pos 0)) ∷ []

-- the profile without seeds that allows only the command at one index
abbrev pub allowing : ℕ → Profile
allowing place = record { seeds = 0; allowed = 2 ^ place }

-- the numbers and names of the rules, which commands profiles allow, and the seeds of a set
pub record WorkedNames : Type 0 where
  pub rule_numbers : map rule_number all_rules ≡ 1 ∷ 2 ∷ 3 ∷ 4 ∷ 5 ∷ 6 ∷ 7 ∷ 8 ∷ 9 ∷ 10 ∷ 11 ∷ 12 ∷ 13 ∷ 14 ∷ 15 ∷ []
  pub rule_names : flat_map (λ r. name_of r ++ codes " ") all_rules ≡ codes
      "TraceEnds HaltAlone HaltOrigin HaltLow OutOfSpace Blocked Seeds InRegion Partner GroupShape Interference Ungrounded AfterHalt WrongResult Forbidden "
  -- the full profile allows all twelve, the light one the first nine
  pub full_allows : list_all (is_allowed full_profile) all_commands ≡ true
  pub light_allows : filter (is_allowed light_profile) all_commands ≡ take 9 all_commands
  -- each word has its own bit
  pub indexes : map index_of all_commands ≡ numbers_below 12
  -- a set has 64 bits
  pub the_greatest_seed : seed_list (2 ^ 63) ≡ 63 ∷ []
  pub past_the_greatest_seed : seed_list (2 ^ 64) ≡ []
  -- a profile that allows the k-th command alone
  pub only_one_is_allowed :
      flat_map (λ k. filter (is_allowed (allowing k)) all_commands) (numbers_below 12) ≡ all_commands
