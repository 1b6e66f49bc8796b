-- Worked examples of spellings, traces, models, levels and texts.
use Rattle.std.specs.Prelude.{◌≡◌, true, false, map, flat_map, replicate, pos, List, [], ◌∷◌, ◌++◌, Ok, Err, Some, None, codes, length}
use Rattle.vox_geom.specs.declared.coordinate.Coord.{Coord}
use Rattle.nano_spec.specs.declared.commands.Command.TheVariants.{Halt, Wait, Flip, SMove, LMove, FusionP, FusionS, Fission, Fill, Void, GFill, GVoid}
use Rattle.nano_spec.specs.Cutting.{Decoding, CutAt, BadAt}
use Rattle.nano_spec.specs.Grounded.{Grounded}
use Rattle.nano_spec.specs.Legal.{Legality, Border, Floating}
use Rattle.nano_spec.specs.Level.{Level}
use Rattle.nano_spec.specs.Matrix.{empty}
use Rattle.nano_spec.specs.Model.{model, written, volume, of_runs, runs_in, run_lengths, voxels_of, byte_at, four_bytes, number_of_four, NoByte, Resolution, Short, Long, WideHead, WideResolution, WideRun, WideShort, WideLong}
use Rattle.nano_spec.specs.Printing.{print}
use Rattle.nano_spec.specs.Line.{NotAscii, UnknownWord, Shape, Range}
use Rattle.nano_spec.specs.Reading.{lines, read}
use Rattle.nano_spec.specs.Worked.{Assembles, diff, hex, below_zero, voxels_at}
use Rattle.vox_geom.specs.Point.{coord}

-- eight voxels at y = 1 around (2,1,2), on the post (3,0,3)
abbrev pub ring : List Coord
ring =
    coord 3 0 3 ∷ coord 1 1 1 ∷ coord 1 1 2 ∷ coord 1 1 3 ∷ coord 2 1 1 ∷ coord 2 1 3 ∷ coord 3 1 1 ∷ coord 3 1 2
    ∷ coord 3 1 3 ∷ []

-- how commands are spelled
pub record WorkedSpellings : Type 0 where
  pub a_move_along_x : Assembles "SMove <12,0,0>" "14 1B"
  pub a_move_back_along_z : Assembles "SMove <0,0,-4>" "34 0B"
  pub a_move_along_x_and_y : Assembles "LMove <3,0,0> <0,-5,0>" "9C 08"
  pub a_move_along_y_and_z : Assembles "LMove <0,-2,0> <0,0,2>" "EC 73"
  pub a_primary : Assembles "FusionP <-1,1,0>" "3F"
  pub a_secondary : Assembles "FusionS <1,-1,0>" "9E"
  pub a_fission : Assembles "Fission <0,0,1> 5" "75 05"
  pub a_fill : Assembles "Fill <0,-1,0>" "53"
  pub a_void : Assembles "Void <1,0,1>" "BA"
  pub a_group_fill : Assembles "GFill <0,-1,0> <10,-15,20>" "51 28 0F 32"
  pub a_group_void : Assembles "GVoid <1,0,0> <5,5,-5>" "B0 23 23 19"
  pub without_differences : Assembles "Halt\nWait\nFlip" "FF FE FD"
  -- the longest move
  pub a_longest_move : Assembles "SMove <15,0,0>" "14 1E"
  -- the longest move back
  pub a_longest_move_back : Assembles "SMove <0,-15,0>" "24 00"
  -- the longest legs
  pub the_longest_legs : Assembles "LMove <5,0,0> <0,-5,0>" "9C 0A"
  -- the farthest corner
  pub the_farthest_corner : Assembles "GFill <0,0,1> <30,-30,0>" "71 3C 00 1E"
  -- the greatest number of a Fission
  pub the_greatest_fission : Assembles "Fission <0,0,1> 255" "75 FF"

-- the commands of the bytes of a trace
pub record WorkedTraces : Type 0 where
  -- the empty trace
  pub no_bytes : Decoding [] (Ok [])
  -- the axis 00 is none
  pub a_move_along_no_axis : Decoding (hex "04") (Err (BadAt 0))
  -- a corner is no near difference
  pub a_fill_at_a_corner : Decoding (hex "03") (Err (BadAt 0))
  -- the bad byte comes second
  pub a_bad_byte_after_a_command : Decoding (hex "77 04") (Err (BadAt 1))
  -- the second byte of a move is missing
  pub a_move_without_its_length : Decoding (hex "14") (Err (CutAt 0))
  -- a move of length 0
  pub a_move_of_length_0 : Decoding (hex "34 0F") (Err (BadAt 0))
  -- a second leg of length 0
  pub a_leg_of_length_0 : Decoding (hex "FE 5C 56") (Err (BadAt 1))
  -- a far difference of 0
  pub a_region_of_no_extent : Decoding (hex "71 1E 1E 1E") (Err (BadAt 0))
  -- a component of 31
  pub too_far_a_corner : Decoding (hex "71 3D 1E 1E") (Err (BadAt 0))
  -- the offset counts bytes
  pub a_bad_byte_after_a_long_command : Decoding (hex "14 10 04") (Err (BadAt 2))
  -- the offset is that of the command that is cut
  pub a_cut_after_a_long_command : Decoding (hex "14 10 71 1E 1E") (Err (CutAt 2))
  -- the greatest number of a Fission
  pub a_fission_of_255 : Decoding (hex "75 FF") (Ok (Fission (diff (pos 0) (pos 0) (pos 1)) 255 ∷ []))
  -- a far difference with a first component of 31 begins no command, even if its other bytes are missing
  pub a_cut_that_is_bad : Decoding (hex "71 3D") (Err (BadAt 0))
  -- one of 0 does
  pub a_far_difference_is_cut : Decoding (hex "71 1E") (Err (CutAt 0))

-- wrong readings of the bytes of a trace
pub record WorkedMisreadings : Type 0 where
  -- the offset is that of the bad byte, and not of the command before it
  pub no_bad_byte_at_a_command : Decoding (hex "FE 04") (Err (BadAt 0)) → ⊥
  -- a move without its length is cut, and not bad
  pub a_cut_that_is_not_bad : Decoding (hex "14") (Err (BadAt 0)) → ⊥

-- the model of bytes, whether it is legal, and levels
pub record WorkedModels : Type 0 where
  -- no byte
  pub no_byte : model [] ≡ Err NoByte
  -- the resolution 0
  pub no_resolution : model (hex "00") ≡ Err (Resolution 0)
  -- the resolution 251
  pub too_great_a_resolution : model (hex "FB") ≡ Err (Resolution 251)
  -- one byte is missing
  pub too_short : model (hex "03 00 00 00") ≡ Err (Short 5 4)
  -- one byte is too many
  pub too_long : model (hex "03 00 00 00 00 00") ≡ Err (Long 5)
  -- the wide form has three bytes at least
  pub no_wide_resolution : model (hex "FF") ≡ Err (WideHead 1)
  -- the resolution 250 has the first form alone
  pub too_small_a_wide_resolution : model (hex "FF 00 FA") ≡ Err (WideResolution 250)
  -- the resolution 401
  pub too_great_a_wide_resolution : model (hex "FF 01 91") ≡ Err (WideResolution 401)
  -- the resolution 254 of the first form
  pub the_greatest_first_byte : model (hex "FE") ≡ Err (Resolution 254)
  -- the resolution 250 has the first form
  pub the_greatest_first_resolution : model (hex "FA") ≡ Err (Short 1953126 1)
  -- the resolution 400 is the greatest
  pub the_greatest_wide_resolution : model (hex "FF 01 90") ≡ Err (WideShort 0)
  -- the third run is 0
  pub a_later_empty_run : model (hex "FF 00 FB 00 00 F6 1A 00 00 00 01 00 00 00 00") ≡ Err (WideRun 2)
  -- the second run is 0
  pub an_empty_run : model (hex "FF 00 FB 00 00 F6 1A 00 00 00 00") ≡ Err (WideRun 1)
  -- the third run is 1 too long
  pub too_long_a_run : model (hex "FF 00 FB 00 00 F6 1A 00 00 00 01 00 F0 54 69") ≡ Err (WideRun 2)
  -- the second run is cut
  pub a_cut_run : model (hex "FF 00 FB 00 00 F6 1A 00") ≡ Err (WideShort 63002)
  -- the three runs have all voxels, and one byte is left
  pub a_byte_after_the_runs : model (hex "FF 00 FB 00 00 F6 1A 00 00 00 01 00 F0 54 68 00") ≡ Err WideLong
  -- the three runs of the model of resolution 251 with the one voxel (1,0,1)
  pub three_runs : runs_in (volume 251) 0 0 (hex "00 00 F6 1A 00 00 00 01 00 F0 54 68") ≡ Ok (63002 ∷ 1 ∷ 15750248 ∷ [])
  -- and how they are written
  pub three_runs_written : flat_map four_bytes (63002 ∷ 1 ∷ 15750248 ∷ []) ≡ hex "00 00 F6 1A 00 00 00 01 00 F0 54 68"
  -- a first run is too long, and a first run is 0
  pub too_long_a_first_run : runs_in 2 0 0 (hex "00 00 00 03") ≡ Err (WideRun 0)
  pub an_empty_first_run : runs_in 2 0 0 (hex "00 00 00 00 00 00 00 02") ≡ Ok (0 ∷ 2 ∷ [])
  -- the most significant byte comes first
  pub four_bytes_read : number_of_four 200 150 100 50 ≡ 3365299250
  pub four_bytes_written : four_bytes 3365299250 ≡ 200 ∷ 150 ∷ 100 ∷ 50 ∷ []
  -- the first run is void
  pub voxels_of_runs : voxels_of false (1 ∷ 2 ∷ 1 ∷ []) ≡ false ∷ true ∷ true ∷ false ∷ []
  -- the first run of a model is void
  pub model_of_runs : of_runs 2 (Ok (1 ∷ 2 ∷ 5 ∷ []))
      ≡ Ok (record { resolution = 2; voxels = false ∷ true ∷ true ∷ false ∷ false ∷ false ∷ false ∷ false ∷ [] })
  -- the runs of five voxels, of which the first and the last two are full
  pub runs_of_voxels : run_lengths 0 false (true ∷ false ∷ false ∷ true ∷ true ∷ []) ≡ 0 ∷ 1 ∷ 2 ∷ 2 ∷ []
  pub a_run_of_three : run_lengths 0 false (true ∷ true ∷ true ∷ []) ≡ 0 ∷ 3 ∷ []
  -- a byte has eight voxels
  pub bytes_of_nine_voxels : map (byte_at (replicate 9 true)) (0 ∷ 1 ∷ []) ≡ 255 ∷ 1 ∷ []
  -- one voxel has its own byte
  pub written_at_resolution_1 : written (empty 1) ≡ hex "01 00"
  -- the wide form begins with the resolution in two bytes, and with a void run
  pub written_at_resolution_251 :
      written (record { resolution = 251; voxels = false ∷ [] }) ≡ hex "FF 00 FB 00 00 00 01"
  pub written_at_resolution_255 :
      written (record { resolution = 255; voxels = false ∷ [] }) ≡ hex "FF 00 FF 00 00 00 01"
  pub written_at_resolution_256 : written (record { resolution = 256; voxels = true ∷ true ∷ false ∷ [] })
      ≡ hex "FF 01 00 00 00 00 00 00 00 00 02 00 00 00 01"
  -- unused bits are written 0
  pub written_without_padding : written (voxels_at 3 (coord 1 0 1 ∷ [])) ≡ hex "03 00 04 00 00"
  -- the five bits behind the last voxel are ignored
  pub padding_is_ignored : model (hex "03 00 00 00 F8") ≡ Ok (empty 3)
  -- the first bit is the origin
  pub the_origin_is_full : model (hex "03 01 00 00 00") ≡ Ok (voxels_at 3 (coord 0 0 0 ∷ []))
  -- place 13 is (1,1,1)
  pub the_middle_is_full : model (hex "03 00 20 00 00") ≡ Ok (voxels_at 3 (coord 1 1 1 ∷ []))
  -- the origin is outside the legal box
  pub a_voxel_at_the_border : Legality (voxels_at 3 (coord 0 0 0 ∷ [])) (Some (Border (coord 0 0 0)))
  -- the other sides of the legal box at resolution 3: the only column in it is (1,0,1) and (1,1,1)
  pub a_column_in_the_box : Legality (voxels_at 3 (coord 1 0 1 ∷ coord 1 1 1 ∷ [])) None
  pub a_voxel_at_the_top : Legality (voxels_at 3 (coord 1 2 1 ∷ [])) (Some (Border (coord 1 2 1)))
  pub a_voxel_at_the_least_x : Legality (voxels_at 3 (coord 0 0 1 ∷ [])) (Some (Border (coord 0 0 1)))
  pub a_voxel_at_the_greatest_x : Legality (voxels_at 3 (coord 2 0 1 ∷ [])) (Some (Border (coord 2 0 1)))
  pub a_voxel_at_the_least_z : Legality (voxels_at 3 (coord 1 0 0 ∷ [])) (Some (Border (coord 1 0 0)))
  pub a_voxel_at_the_greatest_z : Legality (voxels_at 3 (coord 1 0 2 ∷ [])) (Some (Border (coord 1 0 2)))
  -- the least of two voxels outside the box is reported, although a lesser one floats
  pub the_least_at_the_border :
      Legality (voxels_at 4 (coord 1 1 1 ∷ coord 3 0 3 ∷ coord 3 1 0 ∷ [])) (Some (Border (coord 3 0 3)))
  -- the least of two floating voxels is reported
  pub the_least_floating : Legality (voxels_at 4 (coord 2 1 1 ∷ coord 1 2 2 ∷ [])) (Some (Floating (coord 1 2 2)))
  -- voxels that meet at an edge do not ground one another
  pub an_edge_does_not_ground : Legality (voxels_at 4 (coord 1 0 1 ∷ coord 2 1 1 ∷ [])) (Some (Floating (coord 2 1 1)))
  -- no voxel is below
  pub a_floating_voxel : Legality (voxels_at 3 (coord 1 1 1 ∷ [])) (Some (Floating (coord 1 1 1)))
  -- a ring of eight voxels on two posts
  pub a_level_by_the_nearer_post : Level (voxels_at 5 (coord 1 0 1 ∷ ring)) (coord 1 1 1) (Some 1)
  -- the same without the nearer post
  pub a_level_by_the_other_post : Level (voxels_at 5 ring) (coord 1 1 1) (Some 5)
  -- the second byte of the resolution is missing
  pub a_wide_resolution_of_one_byte : model (hex "FF 00") ≡ Err (WideHead 2)
  -- there is no run
  pub no_runs : model (hex "FF 00 FB") ≡ Err (WideShort 0)
  -- there is one run, and voxels are missing
  pub too_few_runs : model (hex "FF 00 FB 00 00 F6 1A") ≡ Err (WideShort 63002)
  -- the three runs have all voxels, and four bytes are left
  pub four_bytes_after_the_runs : model (hex "FF 00 FB 00 00 F6 1A 00 00 00 01 00 F0 54 68 00 00 00 00") ≡ Err WideLong
  -- a voxel that floats has no level
  pub no_level_of_a_floating_voxel : Level (voxels_at 3 (coord 1 1 1 ∷ [])) (coord 1 1 1) None
  -- a void voxel has none
  pub no_level_of_a_void_voxel : Level (empty 3) (coord 1 0 1) None
  -- a path to the floor may rise: a voxel hangs from an arm of a post
  pub a_hanging_voxel_is_grounded :
      Grounded (voxels_at 5 (coord 1 0 1 ∷ coord 1 1 1 ∷ coord 1 2 1 ∷ coord 2 2 1 ∷ coord 2 1 1 ∷ [])) (coord 2 1 1)

-- how texts are printed and read
pub record WorkedTexts : Type 0 where
  -- a text as it is printed
  pub printed : print (SMove (diff (pos 1) (pos 0) (pos 0)) ∷ Fill (diff (pos 0) (pos 0) (pos 1))
      ∷ SMove (diff (below_zero 1) (pos 0) (pos 0)) ∷ Halt ∷ [])
      ≡ codes "SMove <1,0,0>\nFill <0,0,1>\nSMove <-1,0,0>\nHalt\n"
  -- it has 47 bytes
  pub printed_length : length (print (SMove (diff (pos 1) (pos 0) (pos 0)) ∷ Fill (diff (pos 0) (pos 0) (pos 1))
      ∷ SMove (diff (below_zero 1) (pos 0) (pos 0)) ∷ Halt ∷ [])) ≡ 47
  -- and read again
  pub read_again : read (codes "SMove <1,0,0>\nFill <0,0,1>\nSMove <-1,0,0>\nHalt\n") ≡ Ok
      (SMove (diff (pos 1) (pos 0) (pos 0)) ∷ Fill (diff (pos 0) (pos 0) (pos 1))
      ∷ SMove (diff (below_zero 1) (pos 0) (pos 0)) ∷ Halt ∷ [])
  -- with comments, empty lines, blanks and carriage returns
  pub read_freely : read
      (codes "# to the voxel\r\n\n\tSMove  < 1 ,0,\t000>\r\nFill<-0,0,001> # filled\r\n \t \nSMove <-1,0,0>\r\nHalt")
      ≡ Ok (SMove (diff (pos 1) (pos 0) (pos 0)) ∷ Fill (diff (pos 0) (pos 0) (pos 1))
      ∷ SMove (diff (below_zero 1) (pos 0) (pos 0)) ∷ Halt ∷ [])
  -- the empty text
  pub read_nothing : read [] ≡ Ok []
  -- no such word
  pub an_unknown_word : read (codes "Jump") ≡ Err (record { fault = UnknownWord; line = 1 })
  -- no word at all
  pub no_word : read (codes "\n<1,0,0>") ≡ Err (record { fault = UnknownWord; line = 2 })
  -- a difference has three numbers
  pub too_few_numbers : read (codes "Fill <0,0>") ≡ Err (record { fault = Shape; line = 1 })
  -- a Fission has a number
  pub no_number : read (codes "Fission <0,0,1>") ≡ Err (record { fault = Shape; line = 1 })
  -- a number has three digits at most
  pub too_many_digits : read (codes "SMove <0001,0,0>") ≡ Err (record { fault = Shape; line = 1 })
  -- nothing follows a Halt
  pub more_behind : read (codes "Halt Halt") ≡ Err (record { fault = Shape; line = 1 })
  -- words have capital letters
  pub a_small_letter : read (codes "halt") ≡ Err (record { fault = UnknownWord; line = 1 })
  -- a carriage return in the middle of a line is no blank
  pub a_return_in_the_middle : read (codes "Fill\r <0,0,1>") ≡ Err (record { fault = Shape; line = 1 })
  -- one carriage return is dropped at the end, and a second is not
  pub two_returns : read (codes "Wait\r\r\n") ≡ Err (record { fault = Shape; line = 1 })
  -- a carriage return before a comment stays
  pub a_return_before_a_comment : read (codes "Wait\r# \r\n") ≡ Err (record { fault = Shape; line = 1 })
  -- no blanks are needed
  pub without_blanks : read (codes "Fission<0,0,1>5#") ≡ Ok (Fission (diff (pos 0) (pos 0) (pos 1)) 5 ∷ [])
  -- a blank within a number
  pub a_cut_number : read (codes "SMove <1 2,0,0>") ≡ Err (record { fault = Shape; line = 1 })
  -- a plus sign is no part of a number
  pub a_plus_sign : read (codes "SMove <+1,0,0>") ≡ Err (record { fault = Shape; line = 1 })
  -- the shape is checked before the range
  pub a_shape_and_a_range : read (codes "Fill <1,1,1> 1") ≡ Err (record { fault = Shape; line = 1 })
  -- a line's bytes are checked before its word
  pub not_ascii_in_an_unknown_word : read (codes "Jump " ++ 0x80 ∷ []) ≡ Err (record { fault = NotAscii; line = 1 })
  -- the first faulty line decides
  pub the_first_faulty_line : read (codes "Wait\nFill <1,1,1>\nJump") ≡ Err (record { fault = Range; line = 2 })
  -- <1,1,1> is not near
  pub not_near : read (codes "Fill <1,1,1>") ≡ Err (record { fault = Range; line = 1 })
  -- a Fission's number is at most 255
  pub past_a_byte : read (codes "Fission <0,0,1> 256") ≡ Err (record { fault = Range; line = 1 })
  -- a Fission's number is not negative
  pub a_negative_number : read (codes "Fission <0,0,1> -1") ≡ Err (record { fault = Range; line = 1 })
  -- a byte above 7F
  pub not_ascii : read (codes "Wait\n" ++ 0xC3 ∷ []) ≡ Err (record { fault = NotAscii; line = 2 })
  -- in a comment too
  pub not_ascii_in_a_comment : read (codes "Wait\n#" ++ 0xC3 ∷ []) ≡ Err (record { fault = NotAscii; line = 2 })
  -- a word is letters alone
  pub a_digit_behind_a_word : read (codes "Wait1") ≡ Err (record { fault = Shape; line = 1 })
  -- 7F is ASCII
  pub the_greatest_byte : read (codes "Wait#" ++ 0x7F ∷ []) ≡ Ok (Wait ∷ [])
  -- a move has a length
  pub no_length : read (codes "SMove <0,0,0>") ≡ Err (record { fault = Range; line = 1 })
  -- its length is at most 15
  pub too_long_a_move : read (codes "SMove <0,16,0>") ≡ Err (record { fault = Range; line = 1 })
  -- a leg has a length
  pub a_leg_of_no_length : read (codes "LMove <0,0,0> <1,0,0>") ≡ Err (record { fault = Range; line = 1 })
  -- its length is at most 5
  pub too_long_a_leg : read (codes "LMove <1,0,0> <0,0,-6>") ≡ Err (record { fault = Range; line = 1 })
  -- a move is along one axis
  pub not_linear : read (codes "SMove <1,1,0>") ≡ Err (record { fault = Range; line = 1 })
  -- <0,0,0> is not near
  pub no_near_difference : read (codes "Fill <0,0,0>") ≡ Err (record { fault = Range; line = 1 })
  -- <0,0,0> is not far
  pub no_far_difference : read (codes "GFill <0,0,1> <0,0,0>") ≡ Err (record { fault = Range; line = 1 })
  -- a far difference has components of at most 30
  pub too_far : read (codes "GVoid <0,0,1> <31,0,0>") ≡ Err (record { fault = Range; line = 1 })
  -- and no other bytes are letters
  pub a_low_line_behind_a_word : read (codes "Wait_") ≡ Err (record { fault = Shape; line = 1 })
  -- a longer word is another one
  pub another_letter_behind_a_word : read (codes "HaltZ") ≡ Err (record { fault = UnknownWord; line = 1 })
  -- a vertical tab is no blank
  pub a_vertical_tab : read (codes "Wait" ++ 0x0B ∷ []) ≡ Err (record { fault = Shape; line = 1 })
  -- no blank separates a minus sign from its number
  pub a_blank_behind_a_minus_sign : read (codes "SMove <- 1,0,0>") ≡ Err (record { fault = Shape; line = 1 })
  -- a Fission has a near difference
  pub a_fission_that_is_not_near : read (codes "Fission <1,1,1> 0") ≡ Err (record { fault = Range; line = 1 })
  -- so do the other words
  pub a_primary_that_is_not_near : read (codes "FusionP <1,1,1>") ≡ Err (record { fault = Range; line = 1 })
  pub a_secondary_that_is_not_near : read (codes "FusionS <1,1,1>") ≡ Err (record { fault = Range; line = 1 })
  pub a_void_that_is_not_near : read (codes "Void <1,1,1>") ≡ Err (record { fault = Range; line = 1 })
  pub a_group_fill_that_is_not_near : read (codes "GFill <1,1,1> <0,0,1>") ≡ Err (record { fault = Range; line = 1 })
  pub a_group_void_that_is_not_near : read (codes "GVoid <1,1,1> <0,0,1>") ≡ Err (record { fault = Range; line = 1 })
  -- a region to be voided has an extent too
  pub a_group_void_of_no_extent : read (codes "GVoid <0,0,1> <0,0,0>") ≡ Err (record { fault = Range; line = 1 })
  -- blanks may surround each number
  pub blanks_round_each_number : read (codes "SMove < 1 , 0 , 0 >") ≡ Ok (SMove (diff (pos 1) (pos 0) (pos 0)) ∷ [])
  -- a negative number has three digits at most, too
  pub three_digits_behind_a_minus_sign : read (codes "SMove <-100,0,0>") ≡ Err (record { fault = Range; line = 1 })
  pub four_digits_behind_a_minus_sign : read (codes "SMove <-0001,0,0>") ≡ Err (record { fault = Shape; line = 1 })
  -- the bytes below the tab are no blanks
  pub a_backspace : read (codes "Wait" ++ 0x08 ∷ []) ≡ Err (record { fault = Shape; line = 1 })
  -- how each command is printed
  pub all_words_printed : print (Halt ∷ Wait ∷ Flip ∷ SMove (diff (pos 0) (pos 0) (pos 15))
      ∷ LMove (diff (pos 5) (pos 0) (pos 0)) (diff (pos 0) (below_zero 1) (pos 0))
      ∷ FusionP (diff (pos 0) (pos 0) (pos 1)) ∷ FusionS (diff (pos 0) (pos 0) (below_zero 1))
      ∷ Fission (diff (pos 0) (pos 1) (pos 0)) 120 ∷ Fill (diff (pos 1) (pos 0) (pos 1))
      ∷ Void (diff (pos 1) (pos 0) (pos 0))
      ∷ GFill (diff (pos 1) (pos 0) (pos 0)) (diff (pos 30) (pos 0) (below_zero 30))
      ∷ GVoid (diff (pos 1) (pos 0) (pos 0)) (diff (pos 0) (pos 2) (pos 0)) ∷ []) ≡ codes
      "Halt\nWait\nFlip\nSMove <0,0,15>\nLMove <5,0,0> <0,-1,0>\nFusionP <0,0,1>\nFusionS <0,0,-1>\nFission <0,1,0> 120\nFill <1,0,1>\nVoid <1,0,0>\nGFill <1,0,0> <30,0,-30>\nGVoid <1,0,0> <0,2,0>\n"
  -- A, Z, a and z are letters
  pub the_first_and_last_letters : map (λ b. read (codes "Wait" ++ b ∷ [])) (codes "AZaz")
      ≡ Err (record { fault = UnknownWord; line = 1 }) ∷ Err (record { fault = UnknownWord; line = 1 })
      ∷ Err (record { fault = UnknownWord; line = 1 }) ∷ Err (record { fault = UnknownWord; line = 1 }) ∷ []
  -- the bytes next to them are none
  pub beside_the_letters : map (λ b. read (codes "Wait" ++ b ∷ [])) (codes "@[`{")
      ≡ Err (record { fault = Shape; line = 1 }) ∷ Err (record { fault = Shape; line = 1 })
      ∷ Err (record { fault = Shape; line = 1 }) ∷ Err (record { fault = Shape; line = 1 }) ∷ []
  -- the bytes next to 0 and 9 are no digits
  pub beside_the_digits : map (λ b. read (codes "SMove <" ++ b ∷ codes ",0,0>")) (codes "/:")
      ≡ Err (record { fault = Shape; line = 1 }) ∷ Err (record { fault = Shape; line = 1 }) ∷ []
  -- 9 is a digit
  pub the_last_digit : read (codes "SMove <9,0,0>") ≡ Ok (SMove (diff (pos 9) (pos 0) (pos 0)) ∷ [])
  -- the end of a line begins no other one, and a text may end without it
  pub a_line_and_its_end : lines (codes "Wait\n") ≡ codes "Wait" ∷ []
  pub a_line_without_its_end : lines (codes "Wait") ≡ codes "Wait" ∷ []
  pub an_empty_last_line : lines (codes "Wait\n\n") ≡ codes "Wait" ∷ [] ∷ []
  pub no_line : lines [] ≡ []
