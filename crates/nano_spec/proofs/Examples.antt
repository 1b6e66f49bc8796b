-- Worked examples of spellings, traces, models, levels and texts, each by computing.
use Rattle.std.proofs.Common.{◌≡◌, ◌+◌, ◌≤◌, refl, subst, arith, [], ◌∷◌, ◌++◌, length, pos}
use Rattle.std.specs.Fmt.{digits}
use Rattle.std.specs.Prelude.{Some, None}
use Rattle.nano_spec.specs.declared.commands.Command.TheVariants.{Wait, SMove, FusionP, GFill}
use Rattle.nano_spec.specs.Grounded.{Grounded}
use Rattle.nano_spec.specs.Legal.{Border, Floating}
use Rattle.nano_spec.specs.Matrix.{empty}
use Rattle.nano_spec.specs.Spelling.{spellings}
use Rattle.nano_spec.specs.Worked.{diff, voxels_at}
use Rattle.nano_spec.specs.WorkedBytes.{WorkedSpellings, WorkedTraces, WorkedMisreadings, WorkedModels, WorkedTexts}
use Rattle.nano_spec.proofs.Heads.{bad, bad_whatever_follows, cut, too_wide}
use Rattle.nano_spec.proofs.Grounding.{void_is}
use Rattle.nano_spec.proofs.Island.{floats}
use Rattle.nano_spec.proofs.Levels.{before, afterwards}
use Rattle.nano_spec.proofs.Simulation.{legality_is}
use Rattle.nano_spec.proofs.Traces.{suffix}
use Rattle.vox_geom.specs.Point.{coord}

pub worked_spellings : WorkedSpellings
worked_spellings = record {
  a_move_along_x = (_, refl, refl);
  a_move_back_along_z = (_, refl, refl);
  a_move_along_x_and_y = (_, refl, refl);
  a_move_along_y_and_z = (_, refl, refl);
  a_primary = (_, refl, refl);
  a_secondary = (_, refl, refl);
  a_fission = (_, refl, refl);
  a_fill = (_, refl, refl);
  a_void = (_, refl, refl);
  a_group_fill = (_, refl, refl);
  a_group_void = (_, refl, refl);
  without_differences = (_, refl, refl);
  a_longest_move = (_, refl, refl);
  a_longest_move_back = (_, refl, refl);
  the_longest_legs = (_, refl, refl);
  the_farthest_corner = (_, refl, refl);
  the_greatest_fission = (_, refl, refl);
}

pub worked_traces : WorkedTraces
worked_traces = record {
  no_bytes = (tt, refl);
  a_move_along_no_axis = bad (0x04 ∷ []) [] 0 0x04 [] refl refl refl refl refl;
  a_fill_at_a_corner = bad (0x03 ∷ []) [] 0 0x03 [] refl refl refl refl refl;
  a_bad_byte_after_a_command = bad (0x77 ∷ 0x04 ∷ []) (FusionP (diff (pos 0) (pos 0) (pos 1)) ∷ []) 1 0x04 [] refl refl refl refl refl;
  a_move_without_its_length = cut (0x14 ∷ []) [] 0 0x14 [] (SMove (diff (pos 12) (pos 0) (pos 0))) (0x1B ∷ []) refl refl refl refl refl (λ e. cc) refl;
  a_move_of_length_0 = bad_whatever_follows (0x34 ∷ 0x0F ∷ []) [] 0 0x34 (0x0F ∷ []) refl refl refl (λ x. refl) refl;
  a_leg_of_length_0 = bad_whatever_follows (0xFE ∷ 0x5C ∷ 0x56 ∷ []) (Wait ∷ []) 1 0x5C (0x56 ∷ []) refl refl refl (λ x. refl) refl;
  a_region_of_no_extent = bad_whatever_follows (0x71 ∷ 0x1E ∷ 0x1E ∷ 0x1E ∷ []) [] 0 0x71 (0x1E ∷ 0x1E ∷ 0x1E ∷ []) refl refl refl (λ x. refl) refl;
  too_far_a_corner = bad_whatever_follows (0x71 ∷ 0x3D ∷ 0x1E ∷ 0x1E ∷ []) [] 0 0x71 (0x3D ∷ 0x1E ∷ 0x1E ∷ []) refl refl refl (λ x. refl) refl;
  a_bad_byte_after_a_long_command = bad (0x14 ∷ 0x10 ∷ 0x04 ∷ []) (SMove (diff (pos 1) (pos 0) (pos 0)) ∷ []) 2 0x04 [] refl refl refl refl refl;
  a_cut_after_a_long_command = cut (0x14 ∷ 0x10 ∷ 0x71 ∷ 0x1E ∷ 0x1E ∷ []) (SMove (diff (pos 1) (pos 0) (pos 0)) ∷ []) 2 0x71 (0x1E ∷ 0x1E ∷ []) (GFill (diff (pos 0) (pos 0) (pos 1)) (diff (pos 0) (pos 0) (pos 1))) (0x1F ∷ []) refl refl refl refl refl (λ e. cc) refl;
  a_fission_of_255 = ((refl, tt), refl);
  a_cut_that_is_bad = bad_whatever_follows (0x71 ∷ 0x3D ∷ []) [] 0 0x71 (0x3D ∷ []) refl refl refl too_wide refl;
  a_far_difference_is_cut = cut (0x71 ∷ 0x1E ∷ []) [] 0 0x71 (0x1E ∷ []) (GFill (diff (pos 0) (pos 0) (pos 1)) (diff (pos 0) (pos 0) (pos 1))) (0x1E ∷ 0x1F ∷ []) refl refl refl refl refl (λ e. cc) refl;
}

-- by the definitions alone, and by no lemma on decodings
pub worked_misreadings : WorkedMisreadings
worked_misreadings = record {
  no_bad_byte_at_a_command = λ d.
      let least : length d.0 ≤ 1 = d.1.1 (0x04 ∷ []) (Wait ∷ [], (refl, tt), refl) in
      let whole : 2 ≡ 0 + length d.0 = d.3 in
      omega arith;
  a_cut_that_is_not_bad = λ d.
      let front : 0x14 ∷ [] ≡ spellings d.1.0.0 ++ d.0 = d.1.0.2 in
      let whole : 1 ≡ 0 + length d.0 = d.3 in
      let same : 0x14 ∷ [] ≡ d.0 = suffix [] (spellings d.1.0.0) (0x14 ∷ []) d.0 front (omega arith) in
      d.4 (SMove (diff (pos 12) (pos 0) (pos 0)), 0x1B ∷ [], refl, (λ e. cc), subst (λ rest. rest ++ 0x1B ∷ [] ≡ 0x14 ∷ 0x1B ∷ []) same refl);
}

-- by its path alone, and by no lemma
a_hanging_voxel :
    Grounded (voxels_at 5 (coord 1 0 1 ∷ coord 1 1 1 ∷ coord 1 2 1 ∷ coord 2 2 1 ∷ coord 2 1 1 ∷ [])) (coord 2 1 1)
a_hanging_voxel = (coord 2 1 1 ∷ coord 2 2 1 ∷ coord 1 2 1 ∷ coord 1 1 1 ∷ coord 1 0 1 ∷ [], refl)

pub worked_models : WorkedModels
worked_models = record {
  no_byte = refl;
  no_resolution = refl;
  too_great_a_resolution = refl;
  too_short = refl;
  too_long = refl;
  no_wide_resolution = refl;
  too_small_a_wide_resolution = refl;
  too_great_a_wide_resolution = refl;
  the_greatest_first_byte = refl;
  the_greatest_first_resolution = refl;
  the_greatest_wide_resolution = refl;
  a_later_empty_run = refl;
  an_empty_run = refl;
  too_long_a_run = refl;
  a_cut_run = refl;
  a_byte_after_the_runs = refl;
  three_runs = refl;
  three_runs_written = refl;
  too_long_a_first_run = refl;
  an_empty_first_run = refl;
  four_bytes_read = refl;
  four_bytes_written = refl;
  voxels_of_runs = refl;
  model_of_runs = refl;
  runs_of_voxels = refl;
  a_run_of_three = refl;
  bytes_of_nine_voxels = refl;
  written_at_resolution_1 = refl;
  written_at_resolution_251 = refl;
  written_at_resolution_255 = refl;
  written_at_resolution_256 = refl;
  written_without_padding = refl;
  padding_is_ignored = refl;
  the_origin_is_full = refl;
  the_middle_is_full = refl;
  a_voxel_at_the_border = legality_is 6 (voxels_at 3 (coord 0 0 0 ∷ [])) (Some (Border (coord 0 0 0))) refl;
  a_column_in_the_box = legality_is 6 (voxels_at 3 (coord 1 0 1 ∷ coord 1 1 1 ∷ [])) None refl;
  a_voxel_at_the_top = legality_is 6 (voxels_at 3 (coord 1 2 1 ∷ [])) (Some (Border (coord 1 2 1))) refl;
  a_voxel_at_the_least_x = legality_is 6 (voxels_at 3 (coord 0 0 1 ∷ [])) (Some (Border (coord 0 0 1))) refl;
  a_voxel_at_the_greatest_x = legality_is 6 (voxels_at 3 (coord 2 0 1 ∷ [])) (Some (Border (coord 2 0 1))) refl;
  a_voxel_at_the_least_z = legality_is 6 (voxels_at 3 (coord 1 0 0 ∷ [])) (Some (Border (coord 1 0 0))) refl;
  a_voxel_at_the_greatest_z = legality_is 6 (voxels_at 3 (coord 1 0 2 ∷ [])) (Some (Border (coord 1 0 2))) refl;
  the_least_at_the_border = legality_is 6 (voxels_at 4 (coord 1 1 1 ∷ coord 3 0 3 ∷ coord 3 1 0 ∷ [])) (Some (Border (coord 3 0 3))) refl;
  the_least_floating = legality_is 6 (voxels_at 4 (coord 2 1 1 ∷ coord 1 2 2 ∷ [])) (Some (Floating (coord 1 2 2))) refl;
  an_edge_does_not_ground = legality_is 6 (voxels_at 4 (coord 1 0 1 ∷ coord 2 1 1 ∷ [])) (Some (Floating (coord 2 1 1))) refl;
  a_floating_voxel = legality_is 6 (voxels_at 3 (coord 1 1 1 ∷ [])) (Some (Floating (coord 1 1 1))) refl;
  a_level_by_the_nearer_post = before;
  a_level_by_the_other_post = afterwards;
  a_wide_resolution_of_one_byte = refl;
  no_runs = refl;
  too_few_runs = refl;
  four_bytes_after_the_runs = refl;
  no_level_of_a_floating_voxel = floats (voxels_at 3 (coord 1 1 1 ∷ [])) (coord 1 1 1 ∷ []) (coord 1 1 1) refl refl;
  no_level_of_a_void_voxel = void_is (empty 3) (coord 1 0 1) refl;
  a_hanging_voxel_is_grounded = a_hanging_voxel;
}

pub worked_texts : WorkedTexts
unfolding digits
worked_texts = record {
  printed = refl;
  printed_length = refl;
  read_again = refl;
  read_freely = refl;
  read_nothing = refl;
  an_unknown_word = refl;
  no_word = refl;
  too_few_numbers = refl;
  no_number = refl;
  too_many_digits = refl;
  more_behind = refl;
  a_small_letter = refl;
  a_return_in_the_middle = refl;
  two_returns = refl;
  a_return_before_a_comment = refl;
  without_blanks = refl;
  a_cut_number = refl;
  a_plus_sign = refl;
  a_shape_and_a_range = refl;
  not_ascii_in_an_unknown_word = refl;
  the_first_faulty_line = refl;
  not_near = refl;
  past_a_byte = refl;
  a_negative_number = refl;
  not_ascii = refl;
  not_ascii_in_a_comment = refl;
  a_digit_behind_a_word = refl;
  the_greatest_byte = refl;
  no_length = refl;
  too_long_a_move = refl;
  a_leg_of_no_length = refl;
  too_long_a_leg = refl;
  not_linear = refl;
  no_near_difference = refl;
  no_far_difference = refl;
  too_far = refl;
  a_low_line_behind_a_word = refl;
  another_letter_behind_a_word = refl;
  a_vertical_tab = refl;
  a_blank_behind_a_minus_sign = refl;
  a_fission_that_is_not_near = refl;
  a_primary_that_is_not_near = refl;
  a_secondary_that_is_not_near = refl;
  a_void_that_is_not_near = refl;
  a_group_fill_that_is_not_near = refl;
  a_group_void_that_is_not_near = refl;
  a_group_void_of_no_extent = refl;
  blanks_round_each_number = refl;
  three_digits_behind_a_minus_sign = refl;
  four_digits_behind_a_minus_sign = refl;
  a_backspace = refl;
  all_words_printed = refl;
  the_first_and_last_letters = refl;
  beside_the_letters = refl;
  beside_the_digits = refl;
  the_last_digit = refl;
  a_line_and_its_end = refl;
  a_line_without_its_end = refl;
  an_empty_last_line = refl;
  no_line = refl;
}
